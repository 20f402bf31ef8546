mod Rooms
pub mod Comes
pub mod Matching
pub mod Operands
