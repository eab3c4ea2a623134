pub mod Bounded
pub mod Readings
pub mod Wholes
