pub mod CallerLaws
pub mod GoodLaws
pub mod OrderLaws
