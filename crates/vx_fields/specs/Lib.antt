pub mod Statics
