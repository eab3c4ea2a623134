pub mod Entries
pub mod Lends
pub mod Lists
pub mod MethodPlaces
pub mod Rising
pub mod Sparse
