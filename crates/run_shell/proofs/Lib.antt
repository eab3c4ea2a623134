pub mod Stamps
pub mod Runs
pub mod Single
pub mod LoadLaws
