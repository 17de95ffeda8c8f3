pub mod HereWords
pub mod Moves
pub mod Tags
pub mod Texts
pub mod Turns
