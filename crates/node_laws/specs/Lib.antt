pub mod Couriers
pub mod Laws
