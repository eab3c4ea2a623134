pub mod Scripts
pub mod Follows
pub mod Images
