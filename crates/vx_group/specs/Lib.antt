pub mod Callers
pub mod Group
pub mod Keeping
pub mod Sweep
