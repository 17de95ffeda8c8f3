pub mod Heard
pub mod Tree
pub mod Going
