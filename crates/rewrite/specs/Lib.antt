pub mod Rewrite
pub mod Program
mod Examples
