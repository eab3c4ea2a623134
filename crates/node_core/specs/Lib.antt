pub mod Advance
pub mod MethodAsking
pub mod Turns
pub mod Conditions
pub mod Views
pub mod First
