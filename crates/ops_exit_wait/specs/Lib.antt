pub mod Exec
pub mod Waitpid
pub mod MethodWaitpid
pub mod Decide
