-- The earliest of all except Inactivity's is the least deadline of the other kinds' timers.
use Rattle.std.proofs.Common.{sym, ap, subst, ◌∙◌}
use Rattle.std.specs.Option.{MatchOption}
use Rattle.cfdp_timers.specs.ButInactivity.{OnlyInactivity, IsLeastOther}
use Rattle.cfdp_timers.specs.Entries.{earliest_of}
use Rattle.cfdp_timers.proofs.LeastOther.{least-others}
use Rattle.cfdp_timers.proofs.timers.Timers.next_but_inactivity.Goals as goal

pub returns : goal.returns
returns c =
    subst (λ state. MatchOption c.earliest.result (OnlyInactivity state.armed) (λ deadline. IsLeastOther state.armed deadline)) c.self.view_is
    (least-others c.self.inside.entries.entries c.self.invariant.0 c.earliest.result (sym (c.earliest.ensures ∙ ap earliest_of c.self.invariant.2)))
