pub mod StreamLaws
pub mod RegroupLaws
