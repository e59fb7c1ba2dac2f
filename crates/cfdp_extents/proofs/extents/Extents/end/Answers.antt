use Rattle.std.proofs.Common.{◌∙◌, ◌-◌, sym, ap, arith}
use Rattle.std.specs.FinSet.{contains}
use Rattle.cfdp_extents.specs.Ranges.{turned, with_last}
use Rattle.cfdp_extents.proofs.Taken.{none-held}
use Rattle.cfdp_extents.proofs.Last.{before-end, end-held, no-last}
use Rattle.cfdp_extents.proofs.CallerLemmas.{end-only}
use Rattle.cfdp_extents.proofs.extents.Extents.end.Goals as goal

pub returns-in-Some-clause-all_before : goal.returns-in-Some-clause-all_before
returns-in-Some-clause-all_before c n held = before-end (turned c.self.inside.ranges.entries) c.self.inside.last (c.in-Some.field-0-0, c.in-Some.end) n c.self.invariant.0 c.in-Some.is
    (ap (λ s. contains s n) c.self.view_is ∙ held)

pub returns-in-Some-clause-last : goal.returns-in-Some-clause-last
returns-in-Some-clause-last c pos = ap (λ s. contains s (c.in-Some.end - 1)) (sym c.self.view_is)
    ∙ end-held (turned c.self.inside.ranges.entries) c.self.inside.last (c.in-Some.field-0-0, c.in-Some.end) c.self.invariant.0 c.in-Some.is

pub returns-in-None-clause-all_before : goal.returns-in-None-clause-all_before
returns-in-None-clause-all_before c n held = absurd (none-held (with_last (turned c.self.inside.ranges.entries) c.self.inside.last)
    (no-last c.self.inside.ranges.entries c.self.inside.last c.in-None.is c.self.invariant.1) n (ap (λ s. contains s n) c.self.view_is ∙ held))

pub returns-in-Some-clause-is : goal.returns-in-Some-clause-is
returns-in-Some-clause-is c = end-only c.args.self.now c.in-Some.end (returns-in-Some-clause-all_before c) (returns-in-Some-clause-last c)

pub returns-in-None-clause-is : goal.returns-in-None-clause-is
returns-in-None-clause-is c = end-only c.args.self.now 0 (returns-in-None-clause-all_before c) (λ pos. absurd (omega arith))
