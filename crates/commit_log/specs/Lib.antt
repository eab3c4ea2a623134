pub mod Passes
pub mod MethodWord
