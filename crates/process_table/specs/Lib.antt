pub mod Changes
pub mod MethodChanges
pub mod MethodIndex
pub mod MethodMarks
pub mod Orphans
pub mod Rows
