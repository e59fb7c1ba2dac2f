use Rattle.std.proofs.Common.{◌≡◌, [], ◌∷◌, take, drop, MatchOption}
use Rattle.std.specs.Fmt.{HasWritten, IsPlainFormatter}
use Rattle.std.specs.List.{flat_map}
use Rattle.cfdp_dump.specs.Spelled.Lines.{range_text}
use Rattle.cfdp_dump.proofs.spelled.line.RangesDisplay.fmt.Given as goal

-- the ranges so far are written, and the next one is known
abbrev pub invariant-loop-index : goal.invariant-loop-index
invariant-loop-index g l =
    (IsPlainFormatter l.initial.f → HasWritten g.W.Write.write_str_gives l.initial.f (flat_map range_text (take l._index l.self.0.now)) l.f)
    × MatchOption l.next (drop l._index l.self.0.now ≡ []) (λ x. drop l._index l.self.0.now ≡ (x.0, x.1) ∷ x.2)
