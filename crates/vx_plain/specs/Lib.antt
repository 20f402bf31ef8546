pub mod Views
pub mod Frames
