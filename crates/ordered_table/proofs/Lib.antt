pub mod MapLaws
pub mod PlaceLaws
pub mod RisingLaws
pub mod SparseLaws
pub mod AbsentLaws
pub mod PutLaws
