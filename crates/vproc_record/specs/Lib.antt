pub mod Lists
pub mod Vprocs
