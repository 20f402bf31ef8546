pub mod One
pub mod Spelled
