mod Parts
mod Faults
mod Ignored
pub mod RoundTrip
pub mod Taken
