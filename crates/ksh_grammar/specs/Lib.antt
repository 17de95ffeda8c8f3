pub mod Grammar
pub mod Predict
pub mod Rules
pub mod Modes
