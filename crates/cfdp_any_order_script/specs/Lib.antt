pub mod Answers
pub mod Links
pub mod Told
pub mod Performing
pub mod Report
pub mod Simulated
