pub mod Written
pub mod Values
pub mod Answering
pub mod Leaving
pub mod Unique
