pub mod Overview
pub mod Remarks
