pub mod Causes
pub mod Listed
pub mod ListSeen
pub mod Owed
pub mod Seen
