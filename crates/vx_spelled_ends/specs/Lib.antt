pub mod Spelled
pub mod Positions
pub mod Law
