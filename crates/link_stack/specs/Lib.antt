pub mod Frames
pub mod Downward
pub mod Drops
pub mod Upward
pub mod AnyOrder
pub mod EndToEnd
pub mod Lives
