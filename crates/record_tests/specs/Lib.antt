pub mod Elsewhere
