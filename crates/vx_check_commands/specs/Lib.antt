pub mod Check
pub mod Compare
