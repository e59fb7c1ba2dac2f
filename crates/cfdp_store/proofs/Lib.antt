mod FileLemmas
mod Octets
mod PieceLemmas
mod ShownLemmas
pub mod DiskLemmas
