pub mod Writable
pub mod Worlds
pub mod Grammar
