pub mod Dots
pub mod Members
pub mod Naming
pub mod Pieces
pub mod Terms
pub mod Turning
