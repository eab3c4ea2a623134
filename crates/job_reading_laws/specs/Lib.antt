pub mod Grammar
pub mod Faults
pub mod Accepted
pub mod Told
