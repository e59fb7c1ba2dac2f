pub mod Exit
pub mod Report
pub mod Settings
pub mod Numbers
pub mod Words
pub mod Meaning
pub mod Reading
