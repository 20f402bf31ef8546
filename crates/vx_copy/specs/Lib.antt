pub mod Cloning
