pub mod Column
pub mod Digits
pub mod Line
pub mod Write
