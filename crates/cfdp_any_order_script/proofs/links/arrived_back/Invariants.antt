use Rattle.std.proofs.Common.{◌≡◌, ◌<◌, ◌-◌, drop, length}
use Rattle.cfdp_any_order_script.specs.Links.{count_of}
use Rattle.cfdp_any_order_script.proofs.links.arrived_back.Given as goal

-- so many of the lane are among the last ones
abbrev pub invariant-loop-done : goal.invariant-loop-done
invariant-loop-done l = (l.passed ≡ count_of l.lane (drop (length l.arrived - l.done) l.arrived)) × (l.passed < l.back)
