-- The entry of the transaction, if it has one.
use Rattle.std.proofs.Common.{◌≡◌, None, refl, sym, ap, ◌∙◌}
use Rattle.std.specs.Option.{option_and_then, option_copied}
use Rattle.cfdp_timers.specs.declared.kind.Kind.{Kind}
use Rattle.cfdp_timers.specs.declared.kind.Kind.TheVariants.{EofAck, Nak, FinishedAck, Inactivity}
use Rattle.cfdp_timers.specs.Armed.{deadline_of}
use Rattle.cfdp_timers.specs.Entries.{deadline_at}
use Rattle.cfdp_timers.proofs.Kept.{deadline-entries}
use Rattle.cfdp_timers.proofs.timers.Timers.deadlines.Goals as goal

no_deadline : (kind : Kind) → deadline_at (record { eof_ack = None; nak = None; finished_ack = None; inactivity = None }) kind ≡ None
no_deadline EofAck = refl
no_deadline Nak = refl
no_deadline FinishedAck = refl
no_deadline Inactivity = refl

pub returns-in-Some : goal.returns-in-Some
returns-in-Some c = λ kind.
    ap (λ r. option_and_then (λ d. deadline_at d kind) (option_copied r)) (sym c.in-Some.is)
    ∙ ap (option_and_then (λ d. deadline_at d kind)) c.get.ensures.value
    ∙ deadline-entries c.self.inside.entries.entries c.args.id kind c.self.invariant.0
    ∙ ap (λ state. deadline_of state c.args.id kind) c.self.view_is

pub returns-in-None : goal.returns-in-None
returns-in-None c = λ kind.
    no_deadline kind
    ∙ ap (λ r. option_and_then (λ d. deadline_at d kind) (option_copied r)) (sym c.in-None.is)
    ∙ ap (option_and_then (λ d. deadline_at d kind)) c.get.ensures.value
    ∙ deadline-entries c.self.inside.entries.entries c.args.id kind c.self.invariant.0
    ∙ ap (λ state. deadline_of state c.args.id kind) c.self.view_is
