pub mod BagLaws
pub mod NameLaws
pub mod HeldLaws
