pub mod Literals
pub mod Remembered
pub mod Defaults
pub mod Classes
pub mod First
pub mod Objects
