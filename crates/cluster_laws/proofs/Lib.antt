pub mod Runs
pub mod Inside
pub mod Quiet
pub mod Finished
pub mod Offered
pub mod Simulation
