pub mod Limits
pub mod Sender
pub mod Receiver
pub mod Entity
pub mod Dues
