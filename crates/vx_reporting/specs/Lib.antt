pub mod Reported
pub mod Listed
pub mod Fitting
