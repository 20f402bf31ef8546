pub mod Carrying
pub mod Families
