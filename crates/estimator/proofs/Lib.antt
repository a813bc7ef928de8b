pub mod Constants
pub mod Span
pub mod Steady
mod Examples
