pub mod Syntax
pub mod Steps
pub mod Enabled
pub mod Rules
pub mod Calls
