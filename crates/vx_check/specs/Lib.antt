pub mod Ends
pub mod Expected
pub mod Failing
pub mod Finding
pub mod Lines
pub mod Rules
pub mod Text
pub mod Ways
