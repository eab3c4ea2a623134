pub mod EventLaws
pub mod ReplyLaws
pub mod OrphanedLaws
