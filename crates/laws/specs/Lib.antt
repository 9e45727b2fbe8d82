pub mod IfLaws
pub mod Due
pub mod Onward
