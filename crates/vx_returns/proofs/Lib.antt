pub mod ReturnLaws
pub mod ReceiveLaws
pub mod LeaveLaws
pub mod MarkLaws
