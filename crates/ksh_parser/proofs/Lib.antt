pub mod Following
pub mod Building
pub mod OnTop
pub mod Going
pub mod Hearing
