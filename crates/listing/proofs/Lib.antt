pub mod LineLaws
pub mod PairLaws
pub mod ReplyLaws
pub mod Counted
pub mod LineCounts
pub mod OpeningSays
pub mod Sizes
pub mod AscendingPairs
pub mod Unique
mod Examples
