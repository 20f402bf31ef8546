pub mod There
pub mod Latest
pub mod Few
