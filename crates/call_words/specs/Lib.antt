pub mod Words
pub mod Steps
pub mod Laws
mod Examples
