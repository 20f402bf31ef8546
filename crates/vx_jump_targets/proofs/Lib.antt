pub mod Lists
pub mod PlacedFiles
pub mod PlacedCore
pub mod WellPlaced
