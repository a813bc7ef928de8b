pub mod Delta
pub mod Time
pub mod Starred
pub mod Same
pub mod Laws
