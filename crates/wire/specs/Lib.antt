pub mod Bytes
pub mod BytesLaws
pub mod Number
pub mod NumberLaws
