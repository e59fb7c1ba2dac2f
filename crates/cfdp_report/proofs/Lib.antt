pub mod Numbers
pub mod Numerals
pub mod HexNumbers
pub mod Parts
pub mod FlushedEnds
