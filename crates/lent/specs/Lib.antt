pub mod Records
pub mod Covered
