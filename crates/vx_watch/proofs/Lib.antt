pub mod Greatest
pub mod Heard
