pub mod Stacks
pub mod Heaps
pub mod Found
