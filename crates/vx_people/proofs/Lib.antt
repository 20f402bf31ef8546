pub mod Named
pub mod OneText
