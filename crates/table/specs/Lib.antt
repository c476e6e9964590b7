pub mod Reading
pub mod Inner
pub mod Columns
