pub mod Listed
pub mod Nodes
pub mod Numbering
pub mod Spans
