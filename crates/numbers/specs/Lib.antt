pub mod Sizes
pub mod General
pub mod Refusals
