pub mod Kill
pub mod Actions
pub mod Decide
pub mod MethodActions
pub mod MethodKill
