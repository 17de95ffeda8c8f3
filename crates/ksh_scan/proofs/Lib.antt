pub mod Expressions
mod Openings
mod Ends
mod Sees
mod Scans
