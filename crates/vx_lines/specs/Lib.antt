pub mod Tables
pub mod Lines
pub mod Sources
