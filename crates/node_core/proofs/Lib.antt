pub mod Universe
pub mod Nearer
pub mod AdvanceLaws
pub mod FirstLaws
pub mod WantLaws
pub mod TurnLaws
