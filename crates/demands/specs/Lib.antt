pub mod Demanded
pub mod Exact
pub mod Starred
