pub mod State
pub mod Rounds
pub mod Attempted
pub mod Waiting
