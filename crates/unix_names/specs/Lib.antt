pub mod Names
pub mod Seqs
pub mod Sets
pub mod Signals
pub mod States
