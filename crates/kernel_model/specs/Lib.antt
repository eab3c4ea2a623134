pub mod Legal
pub mod Sound
pub mod Step
