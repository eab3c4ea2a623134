pub mod LastCalls
pub mod Watching
pub mod WatchMoves
pub mod WatchReturns
pub mod Sleepers
pub mod WatchWires
