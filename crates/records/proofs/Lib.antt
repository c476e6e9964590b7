pub mod Agreement
pub mod Refusals
pub mod TooMany
pub mod Unique
