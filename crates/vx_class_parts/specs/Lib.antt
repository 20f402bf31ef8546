pub mod Constants
pub mod Keys
pub mod Rules
pub mod Table
