pub mod Kept
pub mod Folded
pub mod Sums
pub mod Slots
pub mod Tied
pub mod Weighed
pub mod Run
pub mod Profile
pub mod Step
pub mod Under
pub mod Demand
pub mod Observed
pub mod Reached
pub mod Refusals
pub mod Unrefused
pub mod Unreached
pub mod Finite
pub mod EveryRate
mod Tested
mod Sample
mod Examples
