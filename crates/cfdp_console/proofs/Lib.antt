pub mod HeardFrom
mod Denials
mod LinesShown
mod HearingLemmas
mod Summing
mod Takes
mod Attending
mod InTurn
mod KnownVisitors
