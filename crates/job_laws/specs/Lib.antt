pub mod Orders
pub mod Forks
pub mod Reports
pub mod Means
pub mod Theorem
