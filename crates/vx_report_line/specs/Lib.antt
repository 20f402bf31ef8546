pub mod Falls
pub mod Forms
pub mod LineEnds
pub mod Parsing
pub mod Tables
