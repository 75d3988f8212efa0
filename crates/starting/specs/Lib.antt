pub mod Start
pub mod StartActs
pub mod StartLaws
pub mod NoSpreadsRules
pub mod StartPromises
pub mod StartPromisesLaws
