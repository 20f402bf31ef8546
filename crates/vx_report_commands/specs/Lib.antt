pub mod Project
pub mod Output
pub mod Tell
pub mod Agree
pub mod Join
pub mod Assemble
