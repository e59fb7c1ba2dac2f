mod Lists
pub mod Lives
mod Link
pub mod Puts
pub mod Kept
pub mod Calls
pub mod Promise
pub mod Resuming
pub mod Keeping
mod Numbers
pub mod Coming
mod Forgetting
mod ComingBack
mod ResumingIn
mod Happening
pub mod Leading
mod Onward
mod Sources
mod Beginning
