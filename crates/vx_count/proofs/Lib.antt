pub mod CutBack
pub mod Adding
pub mod Bytes
pub mod Fronts
pub mod Halves
pub mod Titled
