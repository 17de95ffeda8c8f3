pub mod Decides
pub mod Ends
pub mod Everything
pub mod Laws
pub mod Predictive
pub mod Puts
pub mod Taking
pub mod Weights
