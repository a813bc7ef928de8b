pub mod Answered
pub mod Probability
pub mod Probable
pub mod Judged
mod Examples
