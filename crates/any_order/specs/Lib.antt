pub mod Calls
pub mod Resuming
pub mod Promise
pub mod Kept
pub mod Restoring
pub mod Refusing
pub mod World
pub mod Onward
