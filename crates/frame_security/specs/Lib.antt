pub mod Frames
pub mod Sealing
pub mod Opening
pub mod Lives
pub mod Keys
