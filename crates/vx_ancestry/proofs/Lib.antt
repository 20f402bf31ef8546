pub mod Rounds
pub mod Ranked
pub mod LeadingUp
