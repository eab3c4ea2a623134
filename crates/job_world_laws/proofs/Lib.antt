pub mod Counts
pub mod Places
pub mod Works
pub mod Scripts
pub mod Short
pub mod Writable
pub mod OneParts
pub mod Read
