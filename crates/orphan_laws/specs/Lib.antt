pub mod Kins
pub mod Laws
