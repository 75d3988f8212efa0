pub mod Shows
pub mod Spread
pub mod Inner
