pub mod Bodies
pub mod Lawful
pub mod Reading
pub mod Rules
pub mod Stages
