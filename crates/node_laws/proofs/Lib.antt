pub mod Once
pub mod Sound
pub mod Moves
pub mod Advances
pub mod Turns
pub mod Begins
pub mod Asks
