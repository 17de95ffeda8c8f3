pub mod Heard
pub mod Leading
