pub mod Plain
pub mod Sizes
pub mod Sums
pub mod AfterReport
pub mod Sent
pub mod NotNegativeLimit
