pub mod Deciding
pub mod MethodArrivals
pub mod MethodShows
pub mod Played
pub mod MethodReached
pub mod MethodGoingOn
pub mod RunOn
