use Rattle.std.proofs.Common.{◌≡◌, ℕ, ◌-◌, ◌++◌, List}
use Rattle.mpdu.specs.Packing.{skip}
use Rattle.mpdu.proofs.packer.next_in_front.Given as goal

abbrev pub invariant-loop-at : goal.invariant-loop-at
invariant-loop-at l = (behind : List ℕ) → skip l.size l.size l.first (l.front ++ behind) ≡ skip l.size l.size l.at (l.front ++ behind)

abbrev pub decreases-loop-at : goal.decreases-loop-at
decreases-loop-at l = l.size - l.at
