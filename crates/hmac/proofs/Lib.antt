mod Octets
pub mod Lengths
