pub mod Places
pub mod Counting
pub mod Turning
pub mod Locked
pub mod MayTurn
pub mod Merging
