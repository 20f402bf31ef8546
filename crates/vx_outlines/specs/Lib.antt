pub mod Outlines
pub mod Refusals
