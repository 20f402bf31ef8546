pub mod Family
pub mod Numbers
