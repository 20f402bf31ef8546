pub mod Rising
pub mod Rises
pub mod Beginning
