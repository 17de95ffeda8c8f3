pub mod Asks
pub mod Grammar
pub mod LevelAt
pub mod Meaning
pub mod Numerals
pub mod Values
