mod Lost
mod Budgets
mod Expiring
mod Fired
pub mod Tracking
mod Ticking
mod Aside
mod Outlasting
mod Ends
pub mod Waiting
pub mod Quiet
mod Through
mod Completing
mod Deadlines
mod Lasting
mod InTime
pub mod Rising
mod Rounds
