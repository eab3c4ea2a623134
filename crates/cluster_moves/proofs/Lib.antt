pub mod Things
pub mod Store
pub mod Moves
pub mod Returns
