pub mod Numbers
pub mod MethodNumbers
pub mod Schedules
