pub mod Took
pub mod Among
pub mod ClassTook
pub mod CodeReads
pub mod ClassReads
pub mod SameTexts
pub mod MembersAdded
