pub mod Paths
pub mod Rows
pub mod Shells
pub mod Standard
