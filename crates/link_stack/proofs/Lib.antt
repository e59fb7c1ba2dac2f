pub mod Sent
pub mod Unpacked
pub mod Taking
pub mod Decoded
pub mod Streams
pub mod Grown
pub mod Counted
pub mod AnyOrder
pub mod AnyLanes
pub mod Numbers
pub mod EndToEnd
mod Lives
