pub mod Form
pub mod Lines
pub mod Reading
pub mod Offences
pub mod Inner
