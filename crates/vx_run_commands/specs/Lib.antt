pub mod Run
pub mod Verify
pub mod Retell
