pub mod Shown
pub mod ShownLaws
pub mod Told
pub mod ToldLaws
