pub mod NumberLaws
pub mod ReadLaws
pub mod Flows
