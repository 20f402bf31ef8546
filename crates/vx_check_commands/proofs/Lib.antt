pub mod Checks
pub mod Comparisons
