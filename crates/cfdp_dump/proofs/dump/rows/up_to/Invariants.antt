use Rattle.std.proofs.Common.{◌≡◌, ◌++◌, drop, take}
use Rattle.cfdp_dump.specs.Dump.Rows as spelled
use Rattle.cfdp_dump.proofs.dump.rows.up_to.Given as goal

-- no gap stands before this place
abbrev pub invariant-loop-place : goal.invariant-loop-place
invariant-loop-place l = spelled.up_to l.gap l.text ≡ take l.place l.text ++ spelled.up_to l.gap (drop l.place l.text)
