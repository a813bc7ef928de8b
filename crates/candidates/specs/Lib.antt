pub mod Bound
pub mod Candidate
pub mod Choice
