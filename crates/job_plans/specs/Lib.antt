pub mod Acts
pub mod Files
pub mod Plans
pub mod Worlds
