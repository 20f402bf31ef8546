pub mod Changing
pub mod Initialising
pub mod Running
