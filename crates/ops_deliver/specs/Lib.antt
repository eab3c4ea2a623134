pub mod Events
pub mod Taken
pub mod Turn
pub mod Decide
pub mod MethodTurn
