pub mod Keys
pub mod Sets
pub mod Links
pub mod Misfits
