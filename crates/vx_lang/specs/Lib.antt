pub mod Values
pub mod Questions
pub mod Numbers
pub mod Deeds
