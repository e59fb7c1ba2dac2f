-- What a user of an entity sees and sets, and what is true of a put.
pub mod FileName
pub mod Handler
pub mod Limits
pub mod Policy
pub mod Put
pub mod Completions
