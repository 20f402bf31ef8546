mod Given
mod Numbered
mod Readings
pub mod Copies
