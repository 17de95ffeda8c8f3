pub mod Joined
pub mod Writes
