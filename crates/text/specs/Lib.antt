pub mod Bytes
pub mod Numbers
pub mod Fields
pub mod Lines
pub mod Inner
pub mod Sinks
