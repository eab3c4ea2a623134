pub mod Steps
pub mod Playing
pub mod Posting
pub mod Numbering
