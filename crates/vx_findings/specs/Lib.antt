pub mod Orders
pub mod Shared
