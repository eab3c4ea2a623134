pub mod LogLaws
pub mod MemberLaws
pub mod PlaceLaws
pub mod DistinctLaws
