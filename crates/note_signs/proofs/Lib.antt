pub mod Comes
pub mod Fit
pub mod Named
pub mod Notes
pub mod Own
pub mod Seen
pub mod Words
