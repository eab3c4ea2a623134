pub mod Fork
pub mod Decide
