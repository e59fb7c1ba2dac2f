pub mod Aside
pub mod OrderLemmas
mod Delivered
