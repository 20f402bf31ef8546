pub mod Workload
pub mod Parts
