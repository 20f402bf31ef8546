pub mod Tests
pub mod Positions
pub mod Sites
pub mod Names
pub mod Throws
pub mod Runs
pub mod Reports
pub mod Sound
