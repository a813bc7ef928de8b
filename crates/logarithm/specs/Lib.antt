pub mod Ln
pub mod Power
pub mod Starred
mod Examples
