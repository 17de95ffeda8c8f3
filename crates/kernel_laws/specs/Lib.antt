pub mod Bounds
pub mod Counts
pub mod LastNumbers
pub mod Nameless
pub mod Reached
pub mod Refusals
pub mod Stored
