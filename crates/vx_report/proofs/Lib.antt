pub mod Numbered
pub mod Output
pub mod Walks
