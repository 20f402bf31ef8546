pub mod Growing
pub mod TreeLaws
pub mod ChainLaws
