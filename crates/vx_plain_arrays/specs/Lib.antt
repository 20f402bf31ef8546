pub mod Elements
pub mod Grids
