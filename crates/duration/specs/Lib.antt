pub mod Nanos
pub mod Seconds
mod Examples
