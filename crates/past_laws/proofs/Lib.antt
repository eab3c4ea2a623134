pub mod Behind
pub mod Pasts
pub mod Numbers
