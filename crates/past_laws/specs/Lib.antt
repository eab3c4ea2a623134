pub mod MethodBehind
pub mod Laws
pub mod Numbers
