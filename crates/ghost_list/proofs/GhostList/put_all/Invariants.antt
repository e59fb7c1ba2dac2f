use Rattle.std.proofs.Common.{◌≡◌, ◌++◌, take}
use Rattle.ghost_list.proofs.GhostList.put_all.Given as goal

abbrev pub invariant-loop-value : goal.invariant-loop-value
invariant-loop-value g l = l.self ≡ l.initial.self ++ take l.value-index l.values
