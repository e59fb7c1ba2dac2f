-- The rounds of NAKs of a transaction.
use Rattle.std.specs.Prelude.{◌≡◌, ℕ, ◌+◌, ◌-◌, ◌^◌, ◌<◌, ◌≤◌, min, Bool, true, false}
use Rattle.cfdp_console.specs.declared.rounds.Round.{Round}

-- A NAK whose scope starts there continues a round: it starts where the round's scope ends, or
-- after that. The scope of a first NAK may start at 0.
abbrev pub GoesOn : Round → (start : ℕ) → Type 0
GoesOn round start = (0 < start) × (round.end ≤ start)

-- Two rounds request as many octets of the file, and both or neither of them Metadata.
abbrev pub AsksAlike : Round → Round → Type 0
AsksAlike one other = (one.asked.octets ≡ other.asked.octets)
    × (one.has_metadata ≡ other.has_metadata)

-- how many rounds in a row, up to the last one, requested as much as that, if the one before ends so
-- long a row
abbrev pub alike_count : (is_alike : Bool) → (before : ℕ) → ℕ
alike_count true before = min (before + 1) (2 ^ 64 - 1)
alike_count false before = 1
