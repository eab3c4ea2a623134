pub mod Finish
pub mod WatchFinish
