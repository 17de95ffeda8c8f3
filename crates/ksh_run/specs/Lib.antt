pub mod Texts
pub mod Script
pub mod Top
pub mod Checks
