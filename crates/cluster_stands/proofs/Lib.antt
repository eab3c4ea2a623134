pub mod FirstRecords
pub mod First
pub mod FirstWatched
