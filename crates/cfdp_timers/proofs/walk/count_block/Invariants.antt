-- The counted ones and the others are all of the block and after it, and no more than four of each
-- transaction.
use Rattle.std.proofs.Common.{◌≡◌, ◌≤◌, ◌+◌, ◌-◌, ◌*◌, length, drop}
use Rattle.cfdp_timers.specs.Entries.{due, alarms}
use Rattle.cfdp_timers.proofs.walk.count_block.Given as goal

abbrev pub invariant-loop-place : goal.invariant-loop-place
invariant-loop-place l = record {
  sum : l.count + length (due l.now (alarms (drop l.place l.entries.entries))) ≡ length (due l.now (alarms (drop (64 * l.block) l.entries.entries)));
  few : l.count ≤ 4 * (l.place - 64 * l.block);
}
