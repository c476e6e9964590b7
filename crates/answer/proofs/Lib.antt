pub mod LineLaws
pub mod ReadLaws
pub mod Answers
pub mod Places
pub mod Short
pub mod Unique
mod Examples
