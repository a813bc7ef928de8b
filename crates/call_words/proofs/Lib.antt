pub mod Scanning
pub mod Splitting
pub mod Saying
pub mod Numbers
pub mod Exact
pub mod Taken
