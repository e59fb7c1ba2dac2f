pub mod Lanes
pub mod Arriving
pub mod Turns
mod Copies
mod Accepting
mod Keeping
mod Serving
mod Lives
