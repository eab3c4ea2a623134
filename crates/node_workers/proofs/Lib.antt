pub mod Laying
pub mod AllTurns
pub mod NodeTurns
pub mod Learning
pub mod Writing
pub mod Served
