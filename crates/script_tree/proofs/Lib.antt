pub mod Tagged
pub mod Joined
pub mod Fitted
pub mod Defaults
pub mod Covered
pub mod Tables
