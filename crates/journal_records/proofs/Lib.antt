pub mod Parts
pub mod Forms
pub mod Records
pub mod Journals
pub mod Appended
