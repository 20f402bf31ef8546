pub mod ListLaws
pub mod ShortFiles
pub mod ShortCore
pub mod ShortParts
pub mod NativeForms
pub mod MainRoom
pub mod Bounded
