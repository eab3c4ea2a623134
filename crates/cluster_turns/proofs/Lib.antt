pub mod Asked
pub mod Advances
pub mod Turns
pub mod Inside
pub mod InsideTurns
pub mod Ends
