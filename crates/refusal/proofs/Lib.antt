pub mod Outcome
pub mod Alike
pub mod Gives
pub mod TryFold
