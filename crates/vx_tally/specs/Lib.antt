pub mod Tally
pub mod Parts
pub mod Made
pub mod Answers
pub mod Counted
pub mod Listed
pub mod Canonical
