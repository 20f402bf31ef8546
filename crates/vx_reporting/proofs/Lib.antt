pub mod Matching
pub mod Rising
pub mod Lawful
pub mod AllLines
pub mod OneText
