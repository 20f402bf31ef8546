pub mod Lines
pub mod Projection
pub mod Runs
pub mod Text
