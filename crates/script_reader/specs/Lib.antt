pub mod Files
pub mod Lines
pub mod MethodCuts
pub mod MethodReading
pub mod Names
pub mod Statements
