pub mod Choices
pub mod Cuts
pub mod Parts
pub mod Texts
