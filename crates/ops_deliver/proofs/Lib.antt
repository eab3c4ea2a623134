pub mod Answered
pub mod Taken
pub mod Grown
pub mod TurnedRows
pub mod Turned
pub mod Stops
pub mod Steps
pub mod TurnCode
