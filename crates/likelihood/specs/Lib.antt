pub mod Feasible
pub mod Probability
pub mod Newton
pub mod Bias
pub mod Objective
