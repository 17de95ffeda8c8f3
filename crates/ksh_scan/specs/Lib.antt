pub mod After
pub mod Arithmetic
pub mod Openings
pub mod Scan
pub mod Seeing
pub mod Steps
