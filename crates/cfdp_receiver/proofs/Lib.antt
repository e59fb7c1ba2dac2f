mod Rows
pub mod Facts
pub mod FactsDue
pub mod FactsTimers
pub mod FactsKept
pub mod FactsPieces
pub mod FactsAsks
pub mod Alike
pub mod Sums
pub mod SoundSteps
pub mod SoundHears
pub mod Among
pub mod SoundLaws
pub mod Held
pub mod StagedLemmas
pub mod StepLemmas
pub mod AskedLemmas
pub mod Chains
pub mod ReadOff
pub mod Limited
mod ReadAnew
mod Writable
