pub mod Read
pub mod Tellings
pub mod Words
