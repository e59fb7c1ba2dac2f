pub mod Stations
pub mod Fields
pub mod Errors
