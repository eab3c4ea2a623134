pub mod Refusals
pub mod Whole
pub mod Actions
pub mod ActionCode
pub mod Steps
pub mod KillCode
