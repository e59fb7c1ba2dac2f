pub mod Options
pub mod Ranges
pub mod Only
pub mod Spelling
pub mod Sums
mod Lanes
pub mod Puts
pub mod Addressed
pub mod FileSizes
mod TypesOfSums
