pub mod ValueLaws
pub mod Write
pub mod WriteCases
pub mod WriteDigitLaws
pub mod WriteLaws
pub mod WriteSteps
pub mod WriteStepsLaws
