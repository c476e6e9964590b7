pub mod SumLaws
pub mod LowestLaws
pub mod PositionLaws
pub mod EveryLaws
pub mod InTurnLaws
pub mod Refusals
pub mod Unique
