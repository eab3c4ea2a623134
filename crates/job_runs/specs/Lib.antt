pub mod MethodNames
pub mod Jobs
