pub mod Frame
pub mod Keeping
