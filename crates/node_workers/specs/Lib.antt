pub mod Views
pub mod Turns
pub mod Serving
pub mod MethodCommitting
pub mod MethodMerging
