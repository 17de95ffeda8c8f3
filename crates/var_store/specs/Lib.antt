pub mod Calls
pub mod Changes
pub mod Faults
pub mod Fronts
pub mod Growth
pub mod Shaping
pub mod Standing
