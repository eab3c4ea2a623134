pub mod Kinds
pub mod Table
pub mod Words
pub mod Writing
