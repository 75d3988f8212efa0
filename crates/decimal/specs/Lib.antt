pub mod Denotes
pub mod DenotesLaws
pub mod Kinds
