pub mod Begins
pub mod Reading
pub mod Moves
pub mod Checked
pub mod Modes
