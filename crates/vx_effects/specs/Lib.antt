pub mod Carrying
pub mod Copying
pub mod Elements
