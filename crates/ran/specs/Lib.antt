pub mod Histories
pub mod HistoriesLaws
