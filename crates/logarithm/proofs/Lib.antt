pub mod Steps
pub mod Logarithms
