pub mod Operands
pub mod Statements
pub mod Lines
