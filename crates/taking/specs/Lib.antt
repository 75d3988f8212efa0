pub mod Answers
pub mod Steps
pub mod Promises
pub mod PromisesLaws
