pub mod Locked
pub mod MayTurn
pub mod Merged
