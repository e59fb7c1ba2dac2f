pub mod Turns
pub mod Whole
