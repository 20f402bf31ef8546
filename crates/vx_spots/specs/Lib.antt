pub mod Entries
pub mod Law
pub mod Parts
pub mod Ranks
pub mod Texts
