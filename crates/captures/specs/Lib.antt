pub mod Numbers
pub mod Packets
pub mod Records
pub mod Blocks
pub mod Captures
pub mod Units
pub mod Texts
