pub mod Fits
pub mod Refusal
pub mod Std
pub mod Extremes
pub mod NotNan
pub mod NotNegative
pub mod AtMost
mod Examples
