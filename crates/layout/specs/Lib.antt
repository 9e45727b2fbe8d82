pub mod Lengths
pub mod Standing
pub mod Fitting
pub mod Regions
pub mod Tables
pub mod Stood
