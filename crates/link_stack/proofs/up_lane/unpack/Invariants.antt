use Rattle.std.proofs.Common.{◌-◌, length}
use Rattle.link_stack.proofs.Unpacked.{IsUnpacked}
use Rattle.link_stack.proofs.up_lane.unpack.Given as goal

abbrev pub invariant-loop-place : goal.invariant-loop-place
invariant-loop-place l =
    IsUnpacked l.link l.initial.packets l.first l.initial.drops l.packets l.place l.drops

abbrev pub decreases-loop-place : goal.decreases-loop-place
decreases-loop-place l = length l.packets - l.place
