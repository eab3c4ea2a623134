pub mod Kinds
pub mod MethodReading
pub mod MethodBounds
