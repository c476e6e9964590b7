pub mod Tables
pub mod Records
pub mod Rules
pub mod Offences
pub mod Statements
pub mod Inner
