pub mod GroupsLaws
pub mod PlaceLaws
pub mod FirstKeys
