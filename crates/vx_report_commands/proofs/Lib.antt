pub mod Agreements
pub mod Alike
pub mod Joins
pub mod Tellings
