pub mod AddLaws
pub mod ChangeLaws
pub mod ChildLaws
pub mod IndexLaws
pub mod MarkLaws
pub mod RisingLaws
pub mod StayLaws
