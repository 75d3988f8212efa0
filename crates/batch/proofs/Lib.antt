pub mod OrderLaws
pub mod TookLaws
