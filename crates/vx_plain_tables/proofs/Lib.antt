mod TableLaws
pub mod CellLaws
pub mod Named
pub mod Short
