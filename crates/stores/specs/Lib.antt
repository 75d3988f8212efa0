pub mod Stored
pub mod Stores
pub mod StoresLaws
