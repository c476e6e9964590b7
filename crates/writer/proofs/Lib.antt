pub mod LineLaws
pub mod SheetLaws
pub mod Judging
pub mod Records
pub mod Kept
pub mod Refusing
pub mod ReplyLaws
pub mod Sizes
pub mod RoundTrips
pub mod Agreement
pub mod Unique
mod Examples
