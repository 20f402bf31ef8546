pub mod Slips
pub mod Refusals
