pub mod ArrayLaws
pub mod FrontLaws
pub mod Promises
pub mod PromisesLaws
pub mod Wanted
pub mod WantedLaws
pub mod WholeLaws
