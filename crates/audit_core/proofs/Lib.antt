pub mod Judgements
pub mod Running
pub mod StampRules
pub mod StampedHistories
pub mod Verdicts
