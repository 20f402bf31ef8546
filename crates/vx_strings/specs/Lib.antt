pub mod Spelled
pub mod Lengths
pub mod Questions
pub mod Changes
pub mod Printed
