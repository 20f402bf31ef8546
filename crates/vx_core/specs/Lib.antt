pub mod Rows
pub mod Drafts
