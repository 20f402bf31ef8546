pub mod NativeRows
pub mod Carrying
pub mod Kept
pub mod Uncarried
pub mod Raised
pub mod Calls
pub mod Making
pub mod Throws
