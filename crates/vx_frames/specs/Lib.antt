pub mod Entering
pub mod Giving
pub mod Fitting
pub mod Locals
pub mod Uncovering
pub mod Unwinding
pub mod Waking
