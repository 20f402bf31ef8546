pub mod Reading
pub mod Steps
pub mod Numbers
pub mod Texts
pub mod Tokens
pub mod Mnemonics
