pub mod FewTurns
pub mod LineNumbers
pub mod Meanings
