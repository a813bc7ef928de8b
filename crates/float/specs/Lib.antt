pub mod Rounded
pub mod Rust
pub mod Answer
pub mod Claims
