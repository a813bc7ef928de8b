pub mod Controller
pub mod Setters
pub mod Report
pub mod Result
pub mod Starred
