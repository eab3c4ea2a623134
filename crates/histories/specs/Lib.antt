pub mod History
pub mod Laws
pub mod MethodLoose
pub mod MethodNumeral
pub mod Reading
pub mod Stamped
pub mod Told
