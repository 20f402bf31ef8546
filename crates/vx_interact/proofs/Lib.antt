mod NodeOptions
mod OptionBits
pub mod Entries
pub mod OneText
