mod Taking
pub mod Spelling
