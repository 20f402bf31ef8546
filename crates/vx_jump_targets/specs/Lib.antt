pub mod Placed
pub mod Law
