pub mod Acts
pub mod ActsLaws
pub mod Compared
pub mod ComparedLaws
pub mod Turns
pub mod UpdateLaws
