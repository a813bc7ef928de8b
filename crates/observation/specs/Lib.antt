pub mod Partial
pub mod Ratio
pub mod Window
pub mod Rows
pub mod Steps
pub mod Starred
mod Examples
