pub mod Turns
pub mod Copies
pub mod Serving
pub mod Lives
