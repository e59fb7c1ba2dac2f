use Rattle.std.proofs.Common.{◌≡◌, ◌+◌, ◌<◌, ℕ, Some, get_or}
use Rattle.std.specs.FinMap.{get}
use Rattle.cfdp_store.proofs.pieces.Pieces.read.Given as goal

abbrev pub invariant-loop-at : goal.invariant-loop-at
invariant-loop-at l = (k : ℕ) → k < l.at → get l.self (l.offset + k) ≡ Some (get_or l.out k 0)
