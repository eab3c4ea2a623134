pub mod Grounds
pub mod MethodNumbers
pub mod Rows
pub mod Told
