pub mod Joined
pub mod Steps
pub mod Text
