pub mod Context
pub mod Slots
pub mod Patterns
pub mod Faults
pub mod Told
