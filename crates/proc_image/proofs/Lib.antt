pub mod Fits
pub mod FollowsLaws
