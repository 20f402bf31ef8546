pub mod Saying
pub mod Doctor
pub mod Stops
