pub mod Events
pub mod Commits
pub mod Owing
pub mod Passing
pub mod Serving
pub mod Promise
pub mod Resuming
pub mod ResumedPromise
