-- Once it is closed a sender isn't suspended, and nothing of its file is asked for.
use Rattle.std.proofs.Common.{◌≡◌, ℕ, ◌==◌, ◌&&◌, min, nat_lt, Bool, true, false, List, [], ◌∷◌, take, Option, Some, None, if◌then◌else◌, refl, sym, subst, inl, ◌∙◌}
use Rattle.std.specs.FinSet as set
use Rattle.cfdp_extents.specs.Offsets.{range}
use Rattle.cfdp_timers.specs.declared.kind.Kind.{Kind}
use Rattle.cfdp_timers.specs.declared.kind.Kind.TheVariants.{EofAck, Nak, FinishedAck, Inactivity}
use Rattle.cfdp_directives.specs.declared.user.handler.Handler.{Handler}
use Rattle.cfdp_directives.specs.declared.user.handler.Handler.TheVariants.{Cancel, Suspend, Ignore, Abandon}
use Rattle.cfdp_directives.specs.declared.user.policy.Policy.{Policy}
use Rattle.cfdp_directives.specs.Pdu.Codes.{no_error}
use Rattle.cfdp_directives.specs.User.Policy.{another_try, finished_told}
use Rattle.cfdp_store.specs.declared.stored.Stored.{Stored}
use Rattle.cfdp_store.specs.declared.stored.Stored.TheVariants.{Done, Refused}
use Rattle.cfdp_sender.specs.declared.phase.SenderPhase.{SenderPhase}
use Rattle.cfdp_sender.specs.declared.phase.SenderPhase.TheVariants.{Sending, Cancelling, Closed}
use Rattle.cfdp_sender.specs.declared.due.SenderDue.{SenderDue}
use Rattle.cfdp_sender.specs.declared.due.SenderDue.TheVariants as due
use Rattle.cfdp_sender.specs.declared.transfer.Transfer.{Transfer}
use Rattle.cfdp_sender.specs.State.{SenderState, opened_sender}
use Rattle.cfdp_sender.specs.Does.{AsksSome}
use Rattle.cfdp_sender.specs.Due.{sender_due}
use Rattle.cfdp_sender.specs.Steps.{hearing, cancelled, closed, sender_sends, hears_ack, asks, asks_all, asks_in, sends_again, handled, quiet, unacknowledged_in, expires, sender_waits, sender_expires, cancels_in, suspends_in, resumes_in, prompts_in}
use Rattle.cfdp_sender.specs.Inputs.{SenderInput, Sends, HearsAck, HearsNak, HearsFinished, HearsKeepAlive, Expires, Cancels, Suspends, Resumes, Prompts, MayHappen, RestsOnceClosed, sender_step}
use Rattle.cfdp_sender.proofs.Ends.{not-closed, waits-open}

abbrev Rests : SenderState → Type 0
Rests = RestsOnceClosed

-- what is sent isn't closed
apart : (x : SenderState) → x.phase ≡ Sending → x.phase ≡ Closed → ⊥
apart x is c = let e : Sending ≡ Closed = sym is ∙ c in cc

pub opened-rests : (t : Transfer) → Rests (opened_sender t)
opened-rests t = λ c. absurd (cc)

-- ---- sending
sent-rests : (stored : Stored) (file : List ℕ) (x : SenderState) (d : SenderDue) → sender_due x ≡ Some d → Rests x → Rests (sender_sends stored file x d).sender
sent-rests stored file x (due.AckOfFinished condition) is rests = rests
sent-rests stored file x (due.Prompt keep_alive) is rests = rests
sent-rests stored file x due.Metadata is rests = rests
sent-rests Done file x (due.AskedData start end) is rests = λ c. absurd (not-closed x start end c (inl is))
sent-rests Refused file x (due.AskedData start end) is rests = λ c. absurd (cc)
sent-rests Done file x (due.NewData start end) is rests = rests
sent-rests Refused file x (due.NewData start end) is rests = λ c. absurd (cc)
sent-rests stored file x due.Eof is rests = rests

-- ---- hearing
ack-rests : (x : SenderState) (p : SenderPhase) (condition : ℕ) → Rests x → Rests (hears_ack p condition x).sender
ack-rests x Sending condition rests = elim (x.eof_taken && (condition == no_error)) as
    (λ b. Rests (if b then record x { acknowledged = true; eof_due = false } else x)) [ true ↦ rests | false ↦ rests ]
ack-rests x Cancelling condition rests = elim (condition == x.condition) as (λ (b : Bool). Rests
    (if b then hearing (finished_told x.addressing.id (cancelled x) ∷ []) (closed x) else hearing [] x).sender) [ true ↦ λ c. (refl, refl) | false ↦ rests ]
ack-rests x Closed condition rests = rests

asks-phase : (p : ℕ × ℕ) (x : SenderState) → (asks p x).phase ≡ x.phase
asks-phase p x = elim ((p.0 == 0) && (p.1 == 0)) as (λ b. (if b then record x { metadata_due = true }
    else (if nat_lt p.0 (min p.1 x.sent) then record x { asked = set.union x.asked (range p.0 (min p.1 x.sent)) } else x)).phase ≡ x.phase) [
      | true ↦ refl
      | false ↦ elim (nat_lt p.0 (min p.1 x.sent)) as (λ b. (if b then record x { asked = set.union x.asked (range p.0 (min p.1 x.sent)) } else x).phase ≡ x.phase) [ true ↦ refl | false ↦ refl ]
    ]

all-phase : (ps : List (ℕ × ℕ)) (x : SenderState) → (asks_all ps x).phase ≡ x.phase
all-phase [] x = refl
all-phase (p ∷ ps) x = all-phase ps (asks p x) ∙ asks-phase p x

nak-rests : (x : SenderState) (p : SenderPhase) (ps : List (ℕ × ℕ)) → x.phase ≡ p → Rests x → Rests (asks_in p ps x)
nak-rests x Sending ps is rests = λ c. absurd (apart (asks_all ps x) (all-phase ps x ∙ is) c)
nak-rests x Cancelling ps is rests = rests
nak-rests x Closed ps is rests = rests

-- ---- timers: what is closed waits for none
handled-rests : (handler : Handler) (condition : ℕ) (ignored x : SenderState) → (x.phase ≡ Closed → ⊥) → Rests ignored → Rests (handled handler condition ignored x)
handled-rests Cancel condition ignored x open_yet rests = λ c. absurd (cc)
handled-rests Suspend condition ignored x open_yet rests = λ c. absurd (open_yet c)
handled-rests Ignore condition ignored x open_yet rests = rests
handled-rests Abandon condition ignored x open_yet rests = λ c. (refl, refl)

unacknowledged-rests : (p : SenderPhase) (handler : Handler) (x : SenderState) → (x.phase ≡ Closed → ⊥) → Rests x → Rests (unacknowledged_in p handler x).sender
unacknowledged-rests Sending handler x open_yet rests = handled-rests handler _ _ x open_yet rests
unacknowledged-rests Cancelling handler x open_yet rests = λ c. (refl, refl)
unacknowledged-rests Closed handler x open_yet rests = λ c. (refl, refl)

again-rests : (o : Option ℕ) (handler : Handler) (x : SenderState) → (x.phase ≡ Closed → ⊥) → Rests x → Rests (sends_again o handler x).sender
again-rests (Some count) handler x open_yet rests = rests
again-rests None handler x open_yet rests = unacknowledged-rests x.phase handler x open_yet rests

expires-rests : (kind : Kind) (policy : Policy) (x : SenderState) → (x.phase ≡ Closed → ⊥) → Rests x → Rests (expires kind policy x).sender
expires-rests EofAck policy x open_yet rests = again-rests (another_try x.count policy.limits.eof) policy.handlers.ack x open_yet rests
expires-rests Inactivity policy x open_yet rests = handled-rests policy.handlers.inactivity _ _ x open_yet rests
expires-rests Nak policy x open_yet rests = rests
expires-rests FinishedAck policy x open_yet rests = rests

expired-rests : (kind : Kind) (policy : Policy) (x : SenderState) → Rests x → Rests (sender_expires kind policy x).sender
expired-rests kind policy x rests = elim (sender_waits kind x) as (λ b. sender_waits kind x ≡ b → Rests (if b then expires kind policy x else quiet x).sender) [
  | true ↦ λ waits. expires-rests kind policy x (waits-open kind x waits) rests
  | false ↦ λ waits. rests
] refl

-- ---- calls
cancels-rests : (p : SenderPhase) (x : SenderState) → Rests x → Rests (cancels_in p x).sender
cancels-rests Sending x rests = λ c. absurd (cc)
cancels-rests Cancelling x rests = rests
cancels-rests Closed x rests = rests

suspends-rests : (p : SenderPhase) (b : Bool) (x : SenderState) → x.phase ≡ p → Rests x → Rests (suspends_in p b x).sender
suspends-rests Sending true x is rests = rests
suspends-rests Sending false x is rests = λ c. absurd (apart x is c)
suspends-rests Cancelling b x is rests = rests
suspends-rests Closed b x is rests = rests

resumes-rests : (p : SenderPhase) (b : Bool) (x : SenderState) → x.phase ≡ p → Rests x → Rests (resumes_in p b x).sender
resumes-rests Sending true x is rests = λ c. absurd (apart x is c)
resumes-rests Sending false x is rests = rests
resumes-rests Cancelling b x is rests = rests
resumes-rests Closed b x is rests = rests

prompts-rests : (p : SenderPhase) (o : Option Bool) (keep_alive : Bool) (x : SenderState) → Rests x → Rests (prompts_in p o keep_alive x).sender
prompts-rests Sending None keep_alive x rests = rests
prompts-rests Sending (Some other) keep_alive x rests = rests
prompts-rests Cancelling o keep_alive x rests = rests
prompts-rests Closed o keep_alive x rests = rests

pub step-rests : (policy : Policy) (file : List ℕ) (input : SenderInput) (x : SenderState) → Rests x → MayHappen input x → Rests (sender_step policy file input x).sender
step-rests policy file (Sends stored d) x rests is = sent-rests stored file x d is rests
step-rests policy file (HearsAck condition) x rests is = ack-rests x x.phase condition rests
step-rests policy file (HearsNak pairs) x rests is = nak-rests x x.phase pairs refl rests
step-rests policy file (HearsFinished outcome) x rests is = λ c. (refl, refl)
step-rests policy file (HearsKeepAlive progress) x rests is = rests
step-rests policy file (Expires kind) x rests is = expired-rests kind policy x rests
step-rests policy file Cancels x rests is = cancels-rests x.phase x rests
step-rests policy file Suspends x rests is = suspends-rests x.phase x.suspended x refl rests
step-rests policy file Resumes x rests is = resumes-rests x.phase x.suspended x refl rests
step-rests policy file (Prompts keep_alive) x rests is = prompts-rests x.phase x.prompt_due keep_alive x rests

pub partly-rests : (pairs : List (ℕ × ℕ)) (x y : SenderState) → AsksSome pairs x y → Rests y
partly-rests pairs x y some = subst Rests (sym some.asked) (λ c. absurd (apart (asks_all (take some.count pairs) x) (all-phase (take some.count pairs) x ∙ some.sending) c))
