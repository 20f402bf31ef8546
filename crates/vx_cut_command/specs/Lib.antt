pub mod Cut
pub mod Words
