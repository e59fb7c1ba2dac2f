pub mod Apart
pub mod Text
