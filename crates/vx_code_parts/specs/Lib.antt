pub mod Bodies
pub mod Drafts
pub mod Instructions
pub mod Firsts
