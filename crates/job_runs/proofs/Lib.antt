mod Named
mod Heard
mod Ended
pub mod Runs
mod Single
