use Rattle.std.proofs.Common.{◌≡◌, ◌≤◌, take}
use Rattle.cfdp_any_order_script.specs.Links.{count_of}
use Rattle.cfdp_any_order_script.proofs.links.waiting_behind.Given as goal

-- so many of the lane stand before this index
abbrev pub invariant-loop-place : goal.invariant-loop-place
invariant-loop-place l = (l.passed ≡ count_of l.lane (take l.place l.waiting.items)) × (l.passed ≤ l.before)
