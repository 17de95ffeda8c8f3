pub mod Simple
pub mod Lowers
