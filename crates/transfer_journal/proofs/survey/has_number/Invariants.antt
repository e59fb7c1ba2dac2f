use Rattle.std.proofs.Common.{◌≡◌, ℕ, drop}
use Rattle.std.specs.List.{list_any}
use Rattle.cfdp_extents.specs.Offsets.{is_within}
use Rattle.transfer_journal.proofs.survey.has_number.Given as goal

-- the number is in none so far
abbrev pub invariant-loop-range : goal.invariant-loop-range
invariant-loop-range l =
    list_any (λ (r : ℕ × ℕ). is_within r.0 r.1 l.number) l.ranges
    ≡ list_any (λ (r : ℕ × ℕ). is_within r.0 r.1 l.number) (drop l.range-index l.ranges)
