pub mod MatrixLaws
pub mod CountLaws
pub mod OneWord
pub mod Unique
mod BothSizes
mod Lowest
pub mod Joining
