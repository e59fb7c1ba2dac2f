use Rattle.std.proofs.Common.{drop}
use Rattle.cfdp_entity.specs.Entity.{Counted}
use Rattle.cfdp_station.specs.Taking.{HearsAll}
use Rattle.cfdp_station.proofs.moving.hear_all.Given as goal

-- hearing what is left leads to the same end as hearing all
abbrev pub invariant-loop-place : goal.invariant-loop-place
invariant-loop-place g l = (end : Counted) → HearsAll (drop l.place l.pdus) l.entity end → HearsAll l.pdus l.fn.entity end
