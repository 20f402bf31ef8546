pub mod Classes
pub mod Making
pub mod Places
pub mod Through
