pub mod Comparisons
mod Examples
