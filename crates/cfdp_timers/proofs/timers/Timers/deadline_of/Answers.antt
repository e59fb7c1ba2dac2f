-- The deadline in the transaction's entry, if it has one.
use Rattle.std.proofs.Common.{sym, ap, ◌∙◌}
use Rattle.std.specs.Option.{option_and_then, option_copied}
use Rattle.cfdp_timers.specs.Armed.{deadline_of}
use Rattle.cfdp_timers.specs.Entries.{deadline_at}
use Rattle.cfdp_timers.proofs.Kept.{deadline-entries}
use Rattle.cfdp_timers.proofs.timers.Timers.deadline_of.Goals as goal

pub returns-in_err-get : goal.returns-in_err-get
returns-in_err-get c =
    c.from_residual.ensures ∙ ap (λ r. option_and_then (λ d. deadline_at d c.args.kind) (option_copied r)) (sym c.in_err-get.was)
    ∙ ap (option_and_then (λ d. deadline_at d c.args.kind)) c.get.ensures.value
    ∙ deadline-entries c.self.inside.entries.entries c.args.id c.args.kind c.self.invariant.0
    ∙ ap (λ state. deadline_of state c.args.id c.args.kind) c.self.view_is

pub returns : goal.returns
returns c =
    c.get-2.ensures ∙ ap (λ r. option_and_then (λ d. deadline_at d c.args.kind) (option_copied r)) (sym c.in_ok-get.was)
    ∙ ap (option_and_then (λ d. deadline_at d c.args.kind)) c.get.ensures.value
    ∙ deadline-entries c.self.inside.entries.entries c.args.id c.args.kind c.self.invariant.0
    ∙ ap (λ state. deadline_of state c.args.id c.args.kind) c.self.view_is
