pub mod Numbers
pub mod Tables
pub mod FieldLaws
pub mod CallLaws
pub mod SignatureLaws
pub mod Searches
mod CellCounts
pub mod ArrayNumbers
