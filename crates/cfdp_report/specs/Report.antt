-- Reports, and the words that they share with dumps.
pub mod Name
pub mod Answers
pub mod Lines
pub mod Wording
