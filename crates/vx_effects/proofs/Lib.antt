pub mod Carried
pub mod Copied
pub mod CopyRows
pub mod Elements
pub mod Fronts
pub mod Runs
