pub mod Spelled
pub mod Tokens
pub mod Words
