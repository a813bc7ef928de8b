pub mod Plain
pub mod Exact
pub mod Ratio
