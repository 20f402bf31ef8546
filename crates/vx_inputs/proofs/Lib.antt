pub mod Inputs
pub mod Sourced
pub mod Allowing
