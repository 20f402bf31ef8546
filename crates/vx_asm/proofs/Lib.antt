pub mod Short
pub mod Signatures
pub mod Walks
