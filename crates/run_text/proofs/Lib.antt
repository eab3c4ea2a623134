pub mod Ascii
pub mod FaultLaws
pub mod FaultWords
pub mod ScheduleLaws
pub mod Turns
