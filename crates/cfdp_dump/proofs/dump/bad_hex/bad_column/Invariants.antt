use Rattle.std.proofs.Common.{◌≡◌, ℕ, ◌<◌, true}
use Rattle.cfdp_dump.specs.Dump.Told.{may_stand}
use Rattle.cfdp_dump.proofs.dump.bad_hex.bad_column.Given as goal

-- all octets before this place may stand there
abbrev pub invariant-loop-place : goal.invariant-loop-place
invariant-loop-place l = (k : ℕ) → k < l.place → may_stand l.by_tools l.digits k ≡ true
