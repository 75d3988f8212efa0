pub mod Heartbeats
pub mod ReadBack
pub mod WrittenCases
pub mod WrittenFieldsLaws
pub mod WrittenFormLaws
pub mod WrittenRefusals
pub mod WrittenShortest
