pub mod Keeps
pub mod Closing
pub mod Learning
