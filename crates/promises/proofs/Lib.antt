mod Falling
pub mod Lively
mod Commits
mod Owing
pub mod Standing
pub mod Sounds
pub mod Holding
pub mod Telling
mod Turning
pub mod Hearing
mod Transmitting
pub mod Doing
pub mod Promising
pub mod Inboxing
pub mod Calling
pub mod Knowing
mod Lasting
pub mod Sending
pub mod Lying
mod Wishing
mod Readying
mod Shading
pub mod Reaching
mod Ending
mod Back
mod Lives
mod Events
mod Spool
mod Restarts
mod Resumed
mod Worked
