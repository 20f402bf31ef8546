pub mod Running
pub mod RetoldRuns
pub mod Ran
pub mod Loaded
pub mod Judging
