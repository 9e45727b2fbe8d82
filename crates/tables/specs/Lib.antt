pub mod Laid
pub mod Here
pub mod Stood
pub mod Kept
pub mod After
pub mod Linked
pub mod Tabling
