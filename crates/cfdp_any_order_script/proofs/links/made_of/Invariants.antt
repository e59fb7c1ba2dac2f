use Rattle.std.proofs.Common.{◌≡◌}
use Rattle.cfdp_any_order_script.specs.Links.{made_of}
use Rattle.cfdp_any_order_script.proofs.links.made_of.Given as goal

-- so many are listed
abbrev pub invariant-loop-behind : goal.invariant-loop-behind
invariant-loop-behind l = l.made.items ≡ made_of l.life l.lane l.first l.behind
