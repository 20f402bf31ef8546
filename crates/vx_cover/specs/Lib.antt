pub mod Blocks
pub mod Covers
pub mod Scopes
pub mod Steps
pub mod Targets
pub mod Text
