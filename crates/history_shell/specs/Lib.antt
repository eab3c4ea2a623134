pub mod Hearing
pub mod Audit
pub mod Tables
pub mod MethodHearing
pub mod MethodAsked
