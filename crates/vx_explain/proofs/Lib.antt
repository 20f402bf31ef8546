pub mod Choosing
mod Cycle
pub mod Explaining
pub mod FirstLiterals
mod Halves
pub mod LeftOut
pub mod Printed
pub mod Sums
mod TermSets
pub mod Truths
