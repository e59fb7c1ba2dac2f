pub mod Counts
pub mod Frame
pub mod Fields
pub mod LinkFields
