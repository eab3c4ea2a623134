pub mod Input
pub mod Laws
pub mod MethodFound
pub mod MethodReading
