pub mod ActionLaws
pub mod EndLaws
pub mod NearLaws
pub mod ReachLaws
pub mod SentLaws
pub mod SparedLaws
