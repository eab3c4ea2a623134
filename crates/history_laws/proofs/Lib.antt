pub mod Awake
pub mod Histories
pub mod Lives
pub mod Names
pub mod Pending
pub mod Progress
