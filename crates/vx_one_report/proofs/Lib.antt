pub mod Fitted
pub mod Zipped
pub mod OneReport
pub mod Alike
pub mod LawfulLines
