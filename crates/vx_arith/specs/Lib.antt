pub mod Family
pub mod Numbers
pub mod Raising
