pub mod Keys
pub mod Gathering
pub mod RememberedLaws
pub mod Listed
pub mod DefaultLaws
pub mod Zips
pub mod ObjectLaws
pub mod Constants
