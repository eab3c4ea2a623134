pub mod Cluster
pub mod Possible
pub mod Run
pub mod Quiet
