pub mod Values
pub mod Lifts
pub mod Rows
pub mod Written
pub mod Loads
pub mod Literals
pub mod Loaded
