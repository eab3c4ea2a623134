pub mod Ride
pub mod Whole
