pub mod Arranged
pub mod Noted
