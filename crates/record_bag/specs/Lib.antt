pub mod Names
pub mod Kinds
pub mod Bags
pub mod Decisions
pub mod Lends
