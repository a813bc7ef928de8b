pub mod Records
pub mod Covered
mod Examples
