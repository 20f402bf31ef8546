pub mod FrameLaws
pub mod FrameMakes
