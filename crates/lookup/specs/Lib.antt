pub mod Answers
pub mod AnswersLaws
pub mod Halving
pub mod HalvingLaws
pub mod Lookup
pub mod LookupLaws
