pub mod Family
pub mod Slots
pub mod Constants
