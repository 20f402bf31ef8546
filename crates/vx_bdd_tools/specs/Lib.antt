pub mod Members
pub mod Nodes
pub mod Numbering
pub mod Listing
pub mod Steps
pub mod Support
