pub mod Invariants
pub mod Asking
pub mod Dues
pub mod Failed
pub mod OwnFile
mod Writing
pub mod InFile
pub mod Truth
pub mod KeepsPut
pub mod Ends
mod Resting
pub mod Told
pub mod Waiting
pub mod Rows
