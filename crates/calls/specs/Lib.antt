pub mod Reached
pub mod Verdicts
pub mod Inner
