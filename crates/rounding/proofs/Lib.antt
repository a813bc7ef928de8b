pub mod Parts
pub mod Round
pub mod Operations
pub mod Near
pub mod Order
pub mod Upward
pub mod Weight
pub mod Sums
pub mod Ratio
pub mod Ceiling
pub mod AnyOrder
mod Examples
