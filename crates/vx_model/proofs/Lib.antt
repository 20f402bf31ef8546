mod Complete
pub mod Fits
pub mod Lawful
mod Lines
pub mod Names
mod Pieces
mod Rules
mod Sets
mod Sound
