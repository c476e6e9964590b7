pub mod Sheets
pub mod Rules
pub mod Replies
pub mod Inner
