mod Within
mod Leaves
mod LandingLaws
mod HandledLaws
mod EndLaws
pub mod RaiseLaws
pub mod ThrowLaws
pub mod Falling
mod Flying
mod MadeThrowables
pub mod MadeExceptions
mod WrapLaws
mod FailLaws
mod LeaveLaws
mod PassLaws
pub mod AthrowRows
