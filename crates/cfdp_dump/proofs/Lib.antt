pub mod TextLines
pub mod AskedRanges
pub mod FieldTexts
pub mod ToldOptions
pub mod DumpedLines
pub mod Gaps
pub mod Flushing
pub mod Runs
mod Missing
mod Places
