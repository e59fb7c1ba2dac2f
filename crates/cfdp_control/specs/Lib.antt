pub mod Asking
pub mod Door
pub mod Lines
pub mod Shown
