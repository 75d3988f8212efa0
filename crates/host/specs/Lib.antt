pub mod Promises
pub mod PromisesLaws
