-- An empty map has no transactions and no timers.
use Rattle.std.proofs.Common.{length, sym, ap, subst, ◌∙◌, arith}
use Rattle.cfdp_timers.specs.Entries.{AreBounds, roomy_of, armed_of, others_of}
use Rattle.cfdp_timers.proofs.Kept.{roomy_of-nil, armed_of-nil}
use Rattle.cfdp_timers.proofs.Written.{distinct_ids}
use Rattle.cfdp_timers.proofs.Replaced.{others_of-nil}
use Rattle.cfdp_timers.proofs.Bounded.{bounds-none}
use Rattle.cfdp_timers.proofs.timers.Timers.new.Goals as goal

pub invariant_of-result : goal.invariant_of-result
invariant_of-result c =
    let few = ap length c.new.ensures.empty in (
      distinct_ids _ c.new.ensures.unique,
      omega (arith, few),
      c.new-2.ensures ∙ sym (ap others_of c.new.ensures.empty ∙ others_of-nil),
      subst (λ es. AreBounds es c.new-3.result) (sym c.new.ensures.empty) (bounds-none c.new-3.result),
    )

pub returns-clause-roomy : goal.returns-clause-roomy
returns-clause-roomy c = ap roomy_of c.new.ensures.empty ∙ roomy_of-nil

pub returns-clause-armed : goal.returns-clause-armed
returns-clause-armed c = ap armed_of c.new.ensures.empty ∙ armed_of-nil
