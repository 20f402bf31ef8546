pub mod Fits
pub mod Code
pub mod Members
pub mod Numbers
pub mod Rest
pub mod Class
pub mod Spelling
pub mod File
