pub mod Beginning
pub mod Marking
pub mod MainGroup
pub mod Started
