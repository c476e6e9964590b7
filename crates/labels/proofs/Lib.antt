pub mod BitLaws
pub mod OnesLaws
pub mod ChangedLaws
pub mod SetLaws
pub mod OneWord
pub mod InPlace
pub mod AlikeLaws
pub mod Unique
