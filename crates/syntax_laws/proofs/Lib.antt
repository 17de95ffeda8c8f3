pub mod Exact
pub mod Forks
pub mod Noted
pub mod Paths
pub mod Sights
