pub mod Order
pub mod Armed
pub mod Due
pub mod ButInactivity
pub mod Entries
pub mod Waits
pub mod Effects
