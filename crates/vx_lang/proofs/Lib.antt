pub mod FirstObjects
pub mod ValueRows
pub mod QuestionRows
pub mod NumberRows
pub mod DeedRows
pub mod Loops
pub mod Numbered
