pub mod Ready
pub mod Counts
pub mod Wires
pub mod Places
pub mod Returns
pub mod Phases
pub mod Endings
