pub mod Members
pub mod Numbers
mod ShortWords
pub mod Spelled
mod Texts
