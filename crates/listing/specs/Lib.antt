pub mod ListRules
pub mod ListActs
pub mod ListPromises
pub mod ListActsLaws
pub mod ListPromisesLaws
