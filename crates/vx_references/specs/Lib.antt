pub mod Named
pub mod Fields
pub mod Calls
