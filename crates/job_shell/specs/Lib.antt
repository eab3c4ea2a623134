pub mod MethodSizes
pub mod Compiled
