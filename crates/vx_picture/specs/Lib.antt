pub mod Marks
pub mod Pictures
pub mod Subjects
pub mod Text
pub mod Walks
