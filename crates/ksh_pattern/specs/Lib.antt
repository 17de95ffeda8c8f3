pub mod ByteTests
pub mod Match
pub mod Cells
pub mod Ends
pub mod Reading
pub mod Building
