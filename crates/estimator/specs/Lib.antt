pub mod State
pub mod Hold
pub mod Recovery
pub mod Increase
pub mod Update
pub mod Starred
