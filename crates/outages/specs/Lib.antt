pub mod Outage
pub mod Tries
pub mod Lasting
pub mod Spared
