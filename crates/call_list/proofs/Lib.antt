pub mod Laying
pub mod KeptLines
pub mod Places
pub mod Lines
pub mod Feeding
pub mod Streaming
pub mod Made
