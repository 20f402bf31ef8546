pub mod ByRounds
pub mod Law
