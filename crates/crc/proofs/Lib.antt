mod Walks
pub mod Detection
pub mod Ends
pub mod Xor
pub mod Divisions
pub mod Octets
pub mod Joined
pub mod Tables
pub mod Mirrors
pub mod Tables32
pub mod Powers
pub mod Lefts
pub mod Spreads
pub mod Gathered
pub mod Residues
