mod Listing
mod Seen
mod Tries
mod ByTurns
pub mod Numbered
mod Points
mod Segments
mod Gets
mod Completing
mod Twice
