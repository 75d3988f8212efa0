pub mod PaperCases
pub mod Example
pub mod MessageCases
pub mod FutureCases
pub mod ListCases
pub mod SpreadCases
pub mod LookupCases
