pub mod Hears
pub mod Lent
pub mod Takes
pub mod AnyOrder
pub mod Whole
