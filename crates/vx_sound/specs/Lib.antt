pub mod Values
pub mod Typed
pub mod Sound
pub mod Law
