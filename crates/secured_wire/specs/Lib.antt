pub mod Keeping
pub mod Secured
pub mod Direction
pub mod Passing
