mod Examples
pub mod ReachedLaws
pub mod SetLaws
pub mod VerdictLaws
pub mod Unique
