pub mod Parts
pub mod Bodies
pub mod Signatures
pub mod Source
