pub mod Bounds
pub mod Pick
pub mod Rules
pub mod Sentences
pub mod Steps
pub mod Takes
