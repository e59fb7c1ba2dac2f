pub mod Words
pub mod Said
