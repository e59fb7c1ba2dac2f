pub mod TurnLemmas
pub mod GainLemmas
mod PairLemmas
