pub mod Fitted
mod Examples
