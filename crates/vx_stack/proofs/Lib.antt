pub mod CutLaws
pub mod CutLoops
pub mod OrderLaws
pub mod FormLaws
