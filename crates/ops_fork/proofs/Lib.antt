pub mod Step
pub mod Birth
pub mod Whole
pub mod ForkCode
