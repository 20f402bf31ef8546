pub mod Types
pub mod Fits
pub mod Common
pub mod Ranked
pub mod Rows
pub mod Flow
pub mod Plain
pub mod Law
