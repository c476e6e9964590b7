pub mod Summaries
pub mod Meaning
pub mod Rounds
pub mod Replies
pub mod Inner
