pub mod Pools
pub mod Operations
pub mod NamedFiles
pub mod NamedCore
pub mod NamedPrograms
