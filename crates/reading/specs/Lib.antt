pub mod Verdict
pub mod Steps
pub mod Arities
pub mod Each
pub mod SoFar
pub mod Told
