pub mod Histories
pub mod Single
