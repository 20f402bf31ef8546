pub mod AddingAll
pub mod Placed
pub mod Putting
pub mod Ending
pub mod Going
pub mod Outcomes
pub mod Sequence
