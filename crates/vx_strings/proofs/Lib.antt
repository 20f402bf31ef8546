pub mod Texts
pub mod Places
pub mod QuestionRows
pub mod SpelledRows
pub mod ChangeRows
pub mod MakerRows
pub mod PrintRows
