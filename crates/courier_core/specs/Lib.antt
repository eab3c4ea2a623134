pub mod Wants
pub mod Couriers
