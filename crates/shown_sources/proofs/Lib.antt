mod Reading
mod Worked
pub mod Tables
pub mod Hearing
pub mod Polling
