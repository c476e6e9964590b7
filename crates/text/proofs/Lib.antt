pub mod DigitLaws
pub mod SpelledLaws
pub mod FieldLaws
pub mod FieldLoops
pub mod FieldForms
pub mod TokenLaws
pub mod LineLaws
pub mod PutLaws
pub mod Takes
pub mod Unique
mod Examples
