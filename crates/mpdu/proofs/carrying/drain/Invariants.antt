use Rattle.std.proofs.Common.{◌≡◌, ◌≤◌, ℕ, List, length}
use Rattle.mpdu.specs.Draining.{IsCarried}
use Rattle.mpdu.proofs.carrying.drain.Given as goal

abbrev pub invariant-loop-pointer : goal.invariant-loop-pointer
invariant-loop-pointer l = record {
  sized : l.packer.size ≡ l.initial.packer.size;
  held : l.packer.capacity ≡ l.initial.packer.capacity;
  flag : l.packer.flushed ≡ l.initial.packer.flushed;
  place : l.sent ≤ length l.struck;
  stream : (ps : List (List ℕ)) → IsCarried ps l.struck (length l.initial.buffer) l.initial.packer l.initial.reassembler l.initial.counts.counter l.initial.counts.monitor l.initial.sent
      l.initial.out →
      IsCarried ps l.struck (length l.initial.buffer) l.packer l.reassembler l.counts.counter l.counts.monitor l.sent l.out;
}

abbrev pub decreases-loop-pointer : goal.decreases-loop-pointer
decreases-loop-pointer l = length l.packer.waiting
