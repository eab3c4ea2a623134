pub mod Placement
pub mod Numbers
pub mod Standing
pub mod Histories
