pub mod Dimacs
pub mod Draft
