pub mod Lines
pub mod Totals
pub mod Written
