pub mod Named
pub mod Calls
pub mod Called
pub mod Arguments
pub mod Calling
