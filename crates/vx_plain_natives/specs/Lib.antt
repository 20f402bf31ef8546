pub mod Arguments
pub mod Copying
pub mod Numbers
