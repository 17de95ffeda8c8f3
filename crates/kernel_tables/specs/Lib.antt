pub mod Lent
pub mod Overlaid
