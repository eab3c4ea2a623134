pub mod Finished
pub mod Judge
pub mod Laws
pub mod Table
pub mod Stamped
pub mod Told
