-- What is left if the outbox failed to give the data that were due.
use Rattle.std.proofs.Common.{◌≡◌, ℕ, true, List, Some, None, sym, ap, subst, ◌∙◌}
use Rattle.cfdp_directives.specs.declared.user.limits.Times.{Times}
use Rattle.cfdp_store.specs.declared.stored.Stored.TheVariants.{Refused}
use Rattle.cfdp_timers.specs.declared.effects.Effects.{Effects}
use Rattle.cfdp_sender.specs.declared.due.SenderDue.{SenderDue}
use Rattle.cfdp_sender.specs.declared.due.SenderDue.TheVariants as due
use Rattle.cfdp_sender.specs.declared.taken.Taken.TheVariants.{SourceFailed}
use Rattle.cfdp_sender.specs.State.{SenderState}
use Rattle.cfdp_sender.specs.Due.{sender_due, carries}
use Rattle.cfdp_sender.specs.Steps.{sender_reads, sender_sends}
use Rattle.cfdp_sender.specs.Does.{Leaves, Does, Takes, timers_set}

failed-does : (times : Times) (file : List ℕ) (x new : SenderState) (d : SenderDue) (before now : Effects)
    → carries d ≡ true → Leaves (sender_reads Refused x x) new before.told now.told → now.timers ≡ timers_set times None new before.timers
    → Does times (sender_sends Refused file x d) new before now
failed-does times file x new (due.AskedData start end) before now some l t =
    record { sender = l.sender; tells = l.tells; timers = t ∙ ap (λ (y : SenderState). timers_set times None y before.timers) l.sender }
failed-does times file x new (due.NewData start end) before now some l t =
    record { sender = l.sender; tells = l.tells; timers = t ∙ ap (λ (y : SenderState). timers_set times None y before.timers) l.sender }
failed-does times file x new (due.AckOfFinished condition) before now some l t = absurd (cc)
failed-does times file x new (due.Prompt keep_alive) before now some l t = absurd (cc)
failed-does times file x new due.Metadata before now some l t = absurd (cc)
failed-does times file x new due.Eof before now some l t = absurd (cc)

pub takes-failed : (times : Times) (file : List ℕ) (x new : SenderState) (d : SenderDue) (before now : Effects) (out out_now : List ℕ)
    → sender_due x ≡ Some d → carries d ≡ true → Leaves (sender_reads Refused x x) new before.told now.told
    → now.timers ≡ timers_set times None new before.timers
    → Takes times file (sender_due x) SourceFailed x new before now out out_now
takes-failed times file x new d before now out out_now is some l t =
    subst (λ o. Takes times file o SourceFailed x new before now out out_now) (sym is)
    (some, failed-does times file x new d before now some l t)
