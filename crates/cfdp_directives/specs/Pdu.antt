-- PDUs: what they say, their octets, their faults, and a file's checksum.
pub mod Codes
pub mod Tlv
pub mod Pair
pub mod Content
pub mod Grammar
pub mod Faults
pub mod Written
pub mod Direction
pub mod Addressing
pub mod Checksum
pub mod Sums
