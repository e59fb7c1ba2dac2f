pub mod Receiver
pub mod Sender
pub mod Entity
pub mod Anew
pub mod Later
pub mod Committed
pub mod OneByOne
