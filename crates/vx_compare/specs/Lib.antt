pub mod Differ
pub mod Lines
pub mod Names
pub mod Text
pub mod Ways
pub mod Wide
