pub mod Behind
pub mod Counts
pub mod Listed
pub mod Memo
pub mod Output
pub mod Settings
pub mod Sums
pub mod Text
