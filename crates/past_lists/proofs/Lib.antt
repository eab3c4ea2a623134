pub mod Seen
pub mod Own
pub mod Joining
