pub mod Rate
pub mod Size
pub mod Starred
