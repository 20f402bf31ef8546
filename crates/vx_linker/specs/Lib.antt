pub mod Answers
pub mod Cells
pub mod Few
pub mod Texts
