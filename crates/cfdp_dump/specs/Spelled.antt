-- What octets spell, in lines.
pub mod Shape
pub mod Refusal
pub mod Lines
pub mod Fields
pub mod Told
