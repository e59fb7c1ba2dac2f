-- The transaction has no entry any more.
use Rattle.std.proofs.Common.{◌≡◌, None, ap, ◌∙◌}
use Rattle.std.specs.FinMap as map
use Rattle.std.specs.FinSet as set
use Rattle.cfdp_timers.specs.declared.kind.Kind.{Kind}
use Rattle.cfdp_timers.specs.Armed.{TimersState}
use Rattle.cfdp_timers.specs.Entries.{armed_of}
use Rattle.cfdp_timers.proofs.LetGo.{state-left}
use Rattle.cfdp_timers.proofs.timers.Timers.take_out.Goals as goal

pub returns : goal.returns
returns c =
    let es = c.self.inside.entries.entries in
    let none : (kind : Kind) → map.get (armed_of es) (c.args.id, kind) ≡ None = λ kind. ap (λ (s : TimersState). map.get s.armed (c.args.id, kind)) c.self.view_is ∙ c.requires.none kind in
    state-left c.self.inside.time es c.take_out.new.entries.entries c.args.id c.self.invariant.0 c.take_out.ensures.distinct c.take_out.ensures.found none
    ∙ ap (λ (s : TimersState). record { time = s.time; roomy = set.remove s.roomy c.args.id; armed = s.armed }) c.self.view_is
