pub mod Exact
pub mod NotNegativeRate
pub mod Limited
mod Examples
