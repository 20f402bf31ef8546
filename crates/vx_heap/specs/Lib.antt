pub mod Cells
pub mod Heap
pub mod Changing
pub mod Defaults
pub mod First
pub mod Lifted
pub mod Keeping
