pub mod Faults
pub mod Schedule
