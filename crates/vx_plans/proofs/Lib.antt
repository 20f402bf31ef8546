pub mod Puts
pub mod Plans
pub mod Told
pub mod Linked
