pub mod Octets
pub mod SetLemmas
