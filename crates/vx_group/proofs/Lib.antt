pub mod CallerLaws
pub mod JoinLaws
pub mod GroupLaws
pub mod GroupJoins
pub mod SweepLaws
pub mod SameKeys
