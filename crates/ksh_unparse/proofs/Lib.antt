pub mod Stack
pub mod Papers
pub mod Tried
pub mod Levels
