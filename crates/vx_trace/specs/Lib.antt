pub mod Shown
pub mod TraceText
