pub mod Pendings
pub mod Signals
pub mod Decided
pub mod Known
pub mod NamesKept
pub mod Written
