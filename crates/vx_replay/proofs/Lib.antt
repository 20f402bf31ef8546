mod Behind
mod Calls
mod Carried
mod Shown
mod Turned
pub mod Steps
