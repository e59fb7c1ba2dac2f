pub mod HeldAsBox
pub mod Listed
pub mod Placed
