-- Those from the index on that were gone over have moved up.
use Rattle.std.proofs.Common.{◌≡◌, ℕ, ◌+◌, ◌<◌, ◌≤◌, length, get_or, false}
use Rattle.cfdp_entity.proofs.ready.Ready.remove.Given as goal

abbrev pub invariant-loop-to : goal.invariant-loop-to
invariant-loop-to l = record {
  size : length l.self ≡ length l.fn.self;
  kept : (k : ℕ) → k < l.place → get_or l.self k false ≡ get_or l.fn.self k false;
  moved : (k : ℕ) → l.place ≤ k → k < l.to → get_or l.self k false ≡ get_or l.fn.self (k + 1) false;
  left : (k : ℕ) → l.to ≤ k → get_or l.self k false ≡ get_or l.fn.self k false;
}
