pub mod Offsets
pub mod Ranges
pub mod Front
pub mod Terms
pub mod Count
pub mod Forgotten
pub mod Few
