pub mod Division
pub mod Checks
pub mod Damage
pub mod FileChecks
pub mod Products
pub mod Pieces
pub mod Mirrors
