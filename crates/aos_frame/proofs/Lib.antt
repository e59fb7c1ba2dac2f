pub mod Spelling
pub mod RoundTrip
mod Intact
mod Bare
mod Placed
