pub mod Laws
pub mod GoingOn
