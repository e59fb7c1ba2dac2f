-- The earliest of all is the least deadline of the armed timers.
use Rattle.std.proofs.Common.{◌≡◌, sym, ap, subst, ◌∙◌}
use Rattle.std.specs.Option.{MatchOption}
use Rattle.std.specs.FinMap as map
use Rattle.cfdp_timers.specs.Due.{IsLeast}
use Rattle.cfdp_timers.specs.Entries.{earliest_of}
use Rattle.cfdp_timers.proofs.Distinct.{earliest-alarms}
use Rattle.cfdp_timers.proofs.timers.Timers.next.Goals as goal

pub earliest_of_all-requires : goal.earliest_of_all-requires
earliest_of_all-requires c = record {
  bounds = c.self.invariant.3;
  few = c.self.invariant.1;
  others = c.earliest.ensures ∙ ap earliest_of c.self.invariant.2;
}

pub returns : goal.returns
returns c =
    subst (λ state. MatchOption c.earliest_of_all.result (state.armed ≡ map.empty) (λ deadline. IsLeast state.armed deadline)) c.self.view_is
    (earliest-alarms c.self.inside.entries.entries c.earliest_of_all.result c.self.invariant.0 (sym c.earliest_of_all.ensures))
