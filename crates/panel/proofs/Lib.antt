pub mod CodeLaws
pub mod ReadBack
pub mod Unique
pub mod WrittenBack
