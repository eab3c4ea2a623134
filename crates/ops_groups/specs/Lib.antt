pub mod Move
pub mod Setpgid
pub mod MoveLaw
pub mod Lookups
pub mod Decide
pub mod Setsid
pub mod MethodMove
