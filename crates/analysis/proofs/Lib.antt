mod Examples
pub mod AtWork
pub mod Shape
pub mod Meanings
pub mod Growth
pub mod Bound
pub mod Into
pub mod RowCases
pub mod RoundLaws
pub mod GoingLaws
pub mod LabelsInRange
pub mod ReplyLaws
pub mod Unique
