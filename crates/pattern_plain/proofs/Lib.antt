pub mod Weights
pub mod Pieces
