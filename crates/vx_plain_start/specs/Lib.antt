pub mod First
pub mod Beginning
