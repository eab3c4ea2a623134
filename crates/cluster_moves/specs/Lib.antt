pub mod Benches
