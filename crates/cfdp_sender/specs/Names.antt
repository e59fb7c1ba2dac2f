-- The names of the file that a sender sends.
use Rattle.std.specs.Prelude.{ℕ, Bool, List}

pub record NamesState : Type 0 where
  -- at this end, and at the receiver
  pub source : List ℕ
  pub destination : List ℕ
  -- `true` if memory has them still
  pub kept : Bool
