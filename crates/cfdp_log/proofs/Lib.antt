pub mod LogLines
mod Losing
