pub mod Asking
pub mod Load
pub mod Running
pub mod Fields
pub mod Answering
