pub mod KeywordLaws
pub mod LineLaws
pub mod LineForms
pub mod StepLaws
pub mod Keeping
pub mod Outcomes
pub mod Passing
pub mod SheetForms
pub mod Unique
pub mod Stored
mod Examples
