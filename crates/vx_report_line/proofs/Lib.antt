pub mod Again
pub mod Cuts
pub mod Known
pub mod Numbers
pub mod Orders
pub mod Read
pub mod Texts
