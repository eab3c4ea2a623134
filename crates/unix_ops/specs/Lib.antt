pub mod MethodParts
