pub mod Reading
pub mod Columns
pub mod Table
pub mod Writing
pub mod RoundTrip
pub mod Calls
pub mod Written
pub mod Clear
mod Examples
