pub mod Between
pub mod Candidates
pub mod Explanations
pub mod Literals
pub mod Read
pub mod Rules
pub mod Scopes
pub mod Text
