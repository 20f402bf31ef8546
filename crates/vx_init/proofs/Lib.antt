pub mod RiseLaws
pub mod BeginLaws
pub mod ChainLaws
pub mod ClimbLaws
pub mod MarkLaws
pub mod PartLaws
