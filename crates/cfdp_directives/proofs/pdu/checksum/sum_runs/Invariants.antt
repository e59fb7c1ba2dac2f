use Rattle.std.proofs.Common.{◌≡◌, ◌+◌, ◌-◌, ◌%◌, ◌^◌, ◌≤◌, length, take}
use Rattle.std.specs.Prelude.{sum_by}
use Rattle.cfdp_directives.specs.Pdu.Checksum.{sum_at}
use Rattle.cfdp_directives.proofs.pdu.checksum.sum_runs.Given as goal

abbrev pub invariant-loop-at : goal.invariant-loop-at
invariant-loop-at l = (l.at ≤ length l.blocks) × (l.sum ≡ (l.old + sum_by (λ block. sum_at 0 block) (take l.at l.blocks)) % 2 ^ 32)

abbrev pub decreases-loop-at : goal.decreases-loop-at
decreases-loop-at l = length l.blocks - l.at
