pub mod Std
