pub mod FlatLaws
pub mod Rows
pub mod RowsLaws
