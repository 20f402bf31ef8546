pub mod Lacks
pub mod Listed
