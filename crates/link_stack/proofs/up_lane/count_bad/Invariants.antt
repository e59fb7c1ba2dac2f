use Rattle.std.proofs.Common.{◌≡◌, ◌-◌, replicate}
use Rattle.link_stack.specs.Drops.{all_counted}
use Rattle.link_stack.specs.declared.drops.LinkDrop.TheVariants.{BadPacket}
use Rattle.link_stack.proofs.up_lane.count_bad.Given as goal

abbrev pub invariant-loop : goal.invariant-loop
invariant-loop l = all_counted l.drops (replicate (l.bad - l.counter) BadPacket) ≡ all_counted l.initial.drops (replicate l.bad BadPacket)
