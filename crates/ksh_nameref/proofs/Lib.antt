pub mod Trails
pub mod Fronts
