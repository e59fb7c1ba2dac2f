-- The earliest of the blocks' is the earliest of all.
use Rattle.std.proofs.Common.{ap, ◌∙◌}
use Rattle.cfdp_timers.specs.Entries.{earliest_of}
use Rattle.cfdp_timers.proofs.Firsts.{earliest-firsts}
use Rattle.cfdp_timers.proofs.blocks.Blocks.earliest.Goals as goal

pub returns : goal.returns
returns c =
    c.earliest_of.ensures ∙ ap earliest_of c.deref.ensures.value ∙ earliest-firsts 64 c.self.inside.each.items c.self.inside.firsts.items c.self.invariant ∙ ap earliest_of c.self.view_is
