pub mod Files
pub mod Folder
pub mod ModelFile
pub mod Reports
pub mod Traced
