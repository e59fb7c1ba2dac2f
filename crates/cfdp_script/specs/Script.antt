-- Scripts: their words, what each command does, and how a run ends.
pub mod Run
pub mod Outboxes
pub mod Report
pub mod Ending
pub mod Simulated
pub mod Lines
pub mod Gathering
