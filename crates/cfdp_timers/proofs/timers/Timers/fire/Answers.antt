-- Only one list is the list of the due timers, and these are cleared.
use Rattle.std.proofs.Common.{rules, arith}
use Rattle.std.proofs.lemmas.Grind.{common_steps}
use Rattle.cfdp_timers.specs.Due.{AreDue}
use Rattle.cfdp_timers.proofs.Firing.{only_due, left-is}
use Rattle.cfdp_timers.proofs.timers.Timers.fire.Goals as goal

pub returns-clause-only : goal.returns-clause-only
returns-clause-only c = λ others are.
    let fired : AreDue c.args.self.now.armed c.tighten.new.self.time c.in_ok-fired.fired.items = first_of (search rules, grind (arith, common_steps)) in
    only_due _ _ others c.in_ok-fired.fired.items are fired

pub returns-clause-left : goal.returns-clause-left
returns-clause-left c =
    let fired : AreDue c.args.self.now.armed c.tighten.new.self.time c.in_ok-fired.fired.items = first_of (search rules, grind (arith, common_steps)) in
    left-is _ _ _ c.in_ok-fired.fired.items fired (first_of (search rules, grind (arith, common_steps)))
