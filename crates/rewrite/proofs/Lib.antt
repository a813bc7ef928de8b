pub mod Texts
pub mod Telling
pub mod Chunks
pub mod Accepted
