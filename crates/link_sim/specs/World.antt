-- Two stations and the frames between them.
pub mod State
pub mod Failures
pub mod Steps
