pub mod Matching
pub mod Unique
