pub mod ServedLines
pub mod Serving
pub mod Replaying
