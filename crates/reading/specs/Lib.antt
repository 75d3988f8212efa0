pub mod KeptLaws
pub mod ReadRules
pub mod Record
pub mod RecordLaws
pub mod Reads
pub mod ReadsLaws
pub mod Shown
