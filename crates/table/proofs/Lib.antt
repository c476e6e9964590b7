pub mod Overlaid
pub mod Laying
pub mod Replies
pub mod SameColumns
pub mod CopiedTable
mod Examples
pub mod Unique
