pub mod Walks
pub mod Linking
pub mod Lays
