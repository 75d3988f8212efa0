pub mod Quote
pub mod Inner
pub mod NumberLaws
pub mod Shows
