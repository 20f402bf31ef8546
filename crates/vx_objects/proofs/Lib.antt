pub mod Rows
pub mod FieldRows
pub mod FieldPlaces
pub mod Reaching
pub mod Missing
pub mod MakingRows
