pub mod Family
pub mod Answers
pub mod Made
pub mod Written
