pub mod Family
pub mod Elements
pub mod Making
pub mod Moving
