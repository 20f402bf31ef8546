pub mod Bits
pub mod Interactions
pub mod Text
