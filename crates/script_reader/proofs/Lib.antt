mod Bounds
mod Gathered
mod NameLemmas
mod Rows
mod SignalLemmas
mod Steps
mod Wholes
