pub mod Log
pub mod Kept
pub mod Lossy
pub mod Queue
