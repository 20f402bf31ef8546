pub mod Moving
pub mod Storing
pub mod Gets
pub mod Puts
pub mod Families
