pub mod Turns
pub mod Tending
