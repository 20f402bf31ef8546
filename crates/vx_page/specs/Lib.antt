pub mod Back
pub mod Escapes
pub mod Front
pub mod Page
pub mod Parts
