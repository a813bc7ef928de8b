pub mod Offered
pub mod Chosen
mod Examples
