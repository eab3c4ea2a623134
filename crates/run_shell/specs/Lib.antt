pub mod RunOf
pub mod Replay
pub mod Load
pub mod MethodRuns
