pub mod Lists
pub mod Places
pub mod Sorted
pub mod Stands
pub mod Zeros
