pub mod Stands
pub mod Answering
pub mod Answers
pub mod Sites
pub mod Widths
pub mod Parting
