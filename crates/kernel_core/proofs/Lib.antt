pub mod Absent
pub mod Adds
pub mod Keeps
pub mod Sets
pub mod Starts
