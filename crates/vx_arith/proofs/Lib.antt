pub mod AttemptLaws
pub mod Ends
pub mod HeldLaws
pub mod OperandLaws
pub mod RowLaws
