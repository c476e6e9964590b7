mod Examples
pub mod Operands
pub mod Counters
pub mod Judging
pub mod Admitted
pub mod Readings
pub mod Roots
pub mod Bodies
pub mod Unique
pub mod EachRow
pub mod WithMatrix
pub mod Offences
