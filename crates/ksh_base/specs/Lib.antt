pub mod Name
pub mod Source
pub mod Text
pub mod Words
pub mod formers
