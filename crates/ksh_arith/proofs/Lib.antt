pub mod Powers
pub mod Serving
pub mod Forms
pub mod Scanning
pub mod Levels
pub mod Operators
