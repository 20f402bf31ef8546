pub mod Objects
pub mod Casts
