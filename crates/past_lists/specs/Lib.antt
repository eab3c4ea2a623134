pub mod Own
pub mod Beginnings
