pub mod Spelled
pub mod Dump
pub mod Carrying
