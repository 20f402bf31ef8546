pub mod Throwables
pub mod WholeFiles
pub mod WholeMethods
pub mod WholePrograms
pub mod States
