-- The earliest of each block stays.
use Rattle.std.proofs.Common.{None, get_or, length, ap, ◌∙◌, ◌-◌}
use Rattle.cfdp_timers.proofs.LetGo.{firsts-popped}
use Rattle.cfdp_timers.proofs.blocks.Blocks.pop.Goals as goal

pub invariant_of-self : goal.invariant_of-self
invariant_of-self c = firsts-popped 64 c.self.inside.each.items c.pop.new.self.items c.self.inside.firsts.items c.pop.result c.pop.ensures.items
    (ap (λ l. get_or l (length l - 1) None) c.self.view_is ∙ c.requires.none) c.self.invariant
