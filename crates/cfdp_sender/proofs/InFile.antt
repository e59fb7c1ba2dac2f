-- Exported: what a sender has due stays in its file, whatever happens to it.
use Rattle.std.proofs.Common.{◌≡◌, ℕ, ◌-◌, ◌<◌, ◌≤◌, ◌==◌, ◌&&◌, ◌+◌, min, nat_lt, Bool, true, false, List, [], ◌∷◌, Option, Some, None, if◌then◌else◌, lit<, refl, sym, ap, ◌∙◌, arith}
use Rattle.std.specs.Cmp.{nat_cmp_total}
use Rattle.std.specs.FinSet as set
use Rattle.std.proofs.lemmas.Bool.{le-leb, lt-ltb, and_from}
use Rattle.cfdp_extents.specs.Offsets.{range}
use Rattle.cfdp_extents.specs.Front.{IsFront}
use Rattle.cfdp_extents.specs.Terms.{front_of}
use Rattle.cfdp_extents.proofs.CallerLemmas.{contains-range, front-is}
use Rattle.cfdp_timers.specs.declared.kind.Kind.{Kind}
use Rattle.cfdp_timers.specs.declared.kind.Kind.TheVariants.{EofAck, Nak, FinishedAck, Inactivity}
use Rattle.cfdp_directives.specs.declared.user.handler.Handler.{Handler}
use Rattle.cfdp_directives.specs.declared.user.handler.Handler.TheVariants.{Cancel, Suspend, Ignore, Abandon}
use Rattle.cfdp_directives.specs.declared.user.policy.Policy.{Policy}
use Rattle.cfdp_directives.specs.Pdu.Codes.{no_error, positive_ack_limit, filestore_rejection, inactivity, cancel_request}
use Rattle.cfdp_directives.specs.User.Policy.{another_try, finished_told}
use Rattle.cfdp_store.specs.declared.stored.Stored.{Stored}
use Rattle.cfdp_store.specs.declared.stored.Stored.TheVariants.{Done, Refused}
use Rattle.cfdp_sender.specs.declared.phase.SenderPhase.{SenderPhase}
use Rattle.cfdp_sender.specs.declared.phase.SenderPhase.TheVariants.{Sending, Cancelling, Closed}
use Rattle.cfdp_sender.specs.declared.due.SenderDue.{SenderDue}
use Rattle.cfdp_sender.specs.declared.due.SenderDue.TheVariants as due
use Rattle.cfdp_sender.specs.declared.transfer.Transfer.{Transfer}
use Rattle.cfdp_sender.specs.State.{SenderState, IsSender, IsCause, opened_sender}
use Rattle.cfdp_sender.specs.InFile.{IsInFile}
use Rattle.cfdp_sender.specs.Steps.{hearing, cancelled, cancelling, closed, sender_sends, hears_ack, asks, asks_all, asks_in, sends_again, handled, quiet, unacknowledged_in, expires, sender_waits, sender_expires, cancels_in, suspends_in, resumes_in, prompts_in}
use Rattle.cfdp_sender.specs.Inputs.{SenderInput, Sends, HearsAck, HearsNak, HearsFinished, HearsKeepAlive, Expires, Cancels, Suspends, Resumes, Prompts, MayHappen, sender_step}
use Rattle.cfdp_sender.proofs.Dues.{IsDue, IsSegment, due-is}
use Rattle.cfdp_sender.proofs.Invariants.{asked-none, asked-more, asked-less}

pub held-in : (x : SenderState) → IsSender x → IsInFile x
held-in x s = record { some = s.transfer.some; sent = s.sent; asked = s.asked; cause = s.cause }

pub opened-in : (t : Transfer) → 1 ≤ t.segment → IsInFile (opened_sender t)
opened-in t some = record { some = some; sent = omega arith; asked = asked-none set.empty 0 refl; cause = tt }

-- ---- the data that a PDU carries are in the file
pub asked-in : (x : SenderState) (start end : ℕ) → IsInFile x → front_of x.asked x.segment ≡ Some (start, end) → IsSegment x start end
asked-in x start end s e =
    let front : IsFront x.asked x.segment start end = front-is x.asked x.segment (start, end) e in
    let within : set.contains (range start end) (end - 1) ≡ true =
    contains-range start end (end - 1) ∙ and_from _ _ (le-leb start (end - 1) (omega (arith, front.some))) (lt-ltb (end - 1) end (omega (arith, front.some))) in
    let below = s.asked (end - 1) (set.is_subset-contains nat_cmp_total (range start end) x.asked front.gapless (end - 1) within) in
    record { some = front.some; most = front.at_most; within = omega (arith, front.some, below, s.sent) }

pub new-in : (x : SenderState) (end : ℕ) → IsInFile x → x.sent < x.size → end ≡ min x.size (x.sent + x.segment) → IsSegment x x.sent end
new-in x end s more is = record {
  some = omega (arith, more, is, s.some);
  most = omega (arith, is);
  within = omega (arith, is);
}

-- ---- one step
-- nothing of the file changes
abbrev pub Kept : SenderState → SenderState → Type 0
Kept x y = (y.segment ≡ x.segment) × (y.size ≡ x.size) × (y.sent ≡ x.sent) × (y.asked ≡ x.asked) × IsCause y.phase y.condition

kept-in : (x y : SenderState) → IsInFile x → Kept x y → IsInFile y
kept-in x y s k = record {
  some = omega (arith, k.0, s.some);
  sent = omega (arith, k.1, k.2, s.sent);
  asked = λ n h. (let below : n < x.sent = s.asked n (ap (λ a. set.contains a n) (sym k.3) ∙ h) in omega (arith, below, k.2));
  cause = k.4;
}

cancelled-in : (x : SenderState) (condition : ℕ) → 0 < condition → IsInFile x → IsInFile (cancelling condition x)
cancelled-in x condition some s = record { some = s.some; sent = s.sent; asked = asked-none set.empty x.sent refl; cause = some }

closed-in : (x : SenderState) → IsInFile x → IsInFile (closed x)
closed-in x s = record { some = s.some; sent = s.sent; asked = asked-none set.empty x.sent refl; cause = tt }

-- hearing
ack-in : (x : SenderState) (p : SenderPhase) (condition : ℕ) → IsInFile x → IsInFile (hears_ack p condition x).sender
ack-in x Sending condition s = elim (x.eof_taken && (condition == no_error)) as
    (λ b. IsInFile (if b then record x { acknowledged = true; eof_due = false } else x)) [ true ↦ kept-in x _ s (refl, refl, refl, refl, s.cause) | false ↦ s ]
ack-in x Cancelling condition s = elim (condition == x.condition) as (λ (b : Bool). IsInFile (if b then hearing (finished_told x.addressing.id (cancelled x) ∷ []) (closed x) else hearing [] x).sender)
    [ true ↦ closed-in x s | false ↦ s ]
ack-in x Closed condition s = s

asks-in : (p : ℕ × ℕ) (x : SenderState) → IsInFile x → IsInFile (asks p x)
asks-in p x s = elim ((p.0 == 0) && (p.1 == 0)) as (λ b. IsInFile (if b then record x { metadata_due = true }
    else (if nat_lt p.0 (min p.1 x.sent) then record x { asked = set.union x.asked (range p.0 (min p.1 x.sent)) } else x))) [
      | true ↦ kept-in x _ s (refl, refl, refl, refl, s.cause)
      | false ↦ elim (nat_lt p.0 (min p.1 x.sent)) as (λ b. IsInFile (if b then record x { asked = set.union x.asked (range p.0 (min p.1 x.sent)) } else x)) [
        | true ↦ record {
          some = s.some;
          sent = s.sent;
          asked = asked-more x.asked (set.union x.asked (range p.0 (min p.1 x.sent))) p.0 (min p.1 x.sent) x.sent s.asked (omega arith) refl;
          cause = s.cause;
        }
        | false ↦ s
      ]
    ]

asks_all-in : (ps : List (ℕ × ℕ)) (x : SenderState) → IsInFile x → IsInFile (asks_all ps x)
asks_all-in [] x s = s
asks_all-in (p ∷ ps) x s = asks_all-in ps (asks p x) (asks-in p x s)

nak-in : (x : SenderState) (p : SenderPhase) (ps : List (ℕ × ℕ)) → IsInFile x → IsInFile (asks_in p ps x)
nak-in x Sending ps s = asks_all-in ps x s
nak-in x Cancelling ps s = s
nak-in x Closed ps s = s

-- timers
handled-in : (handler : Handler) (condition : ℕ) (ignored x : SenderState) → 0 < condition → IsInFile x → IsInFile ignored → IsInFile (handled handler condition ignored x)
handled-in Cancel condition ignored x some s t = cancelled-in x condition some s
handled-in Suspend condition ignored x some s t = kept-in x _ s (refl, refl, refl, refl, s.cause)
handled-in Ignore condition ignored x some s t = t
handled-in Abandon condition ignored x some s t = closed-in x s

unacknowledged-in : (p : SenderPhase) (handler : Handler) (x : SenderState) → IsInFile x → IsInFile (unacknowledged_in p handler x).sender
unacknowledged-in Sending handler x s = handled-in handler positive_ack_limit (record x { count = 0; eof_due = true }) x (lit< tt) s (kept-in x _ s (refl, refl, refl, refl, s.cause))
unacknowledged-in Cancelling handler x s = closed-in x s
unacknowledged-in Closed handler x s = closed-in x s

again-in : (o : Option ℕ) (handler : Handler) (x : SenderState) → IsInFile x → IsInFile (sends_again o handler x).sender
again-in (Some count) handler x s = kept-in x _ s (refl, refl, refl, refl, s.cause)
again-in None handler x s = unacknowledged-in x.phase handler x s

expires-in : (kind : Kind) (policy : Policy) (x : SenderState) → IsInFile x → IsInFile (expires kind policy x).sender
expires-in EofAck policy x s = again-in (another_try x.count policy.limits.eof) policy.handlers.ack x s
expires-in Inactivity policy x s = handled-in policy.handlers.inactivity inactivity (record x { count = 0 }) x (lit< tt) s (kept-in x _ s (refl, refl, refl, refl, s.cause))
expires-in Nak policy x s = s
expires-in FinishedAck policy x s = s

expired-in : (kind : Kind) (policy : Policy) (x : SenderState) → IsInFile x → IsInFile (sender_expires kind policy x).sender
expired-in kind policy x s = elim (sender_waits kind x) as (λ b. IsInFile (if b then expires kind policy x else quiet x).sender) [ true ↦ expires-in kind policy x s | false ↦ s ]

-- calls
cancels-in : (p : SenderPhase) (x : SenderState) → IsInFile x → IsInFile (cancels_in p x).sender
cancels-in Sending x s = cancelled-in x cancel_request (lit< tt) s
cancels-in Cancelling x s = s
cancels-in Closed x s = s

suspends-in : (p : SenderPhase) (b : Bool) (x : SenderState) → IsInFile x → IsInFile (suspends_in p b x).sender
suspends-in Sending true x s = s
suspends-in Sending false x s = kept-in x _ s (refl, refl, refl, refl, s.cause)
suspends-in Cancelling b x s = s
suspends-in Closed b x s = s

resumes-in : (p : SenderPhase) (b : Bool) (x : SenderState) → IsInFile x → IsInFile (resumes_in p b x).sender
resumes-in Sending true x s = kept-in x _ s (refl, refl, refl, refl, s.cause)
resumes-in Sending false x s = s
resumes-in Cancelling b x s = s
resumes-in Closed b x s = s

prompts-in : (p : SenderPhase) (o : Option Bool) (keep_alive : Bool) (x : SenderState) → IsInFile x → IsInFile (prompts_in p o keep_alive x).sender
prompts-in Sending None keep_alive x s = kept-in x _ s (refl, refl, refl, refl, s.cause)
prompts-in Sending (Some other) keep_alive x s = s
prompts-in Cancelling o keep_alive x s = s
prompts-in Closed o keep_alive x s = s

-- sending
sent-in : (stored : Stored) (file : List ℕ) (x : SenderState) (d : SenderDue) → IsInFile x → IsDue x d → IsInFile (sender_sends stored file x d).sender
sent-in stored file x (due.AckOfFinished condition) s is = kept-in x _ s (refl, refl, refl, refl, s.cause)
sent-in stored file x (due.Prompt keep_alive) s is = kept-in x _ s (refl, refl, refl, refl, s.cause)
sent-in stored file x due.Metadata s is = kept-in x _ s (refl, refl, refl, refl, s.cause)
sent-in Done file x (due.AskedData start end) s is = record {
  some = s.some;
  sent = s.sent;
  asked = asked-less x.asked (range start end) (set.difference x.asked (range start end)) x.sent s.asked refl;
  cause = s.cause;
}
sent-in Refused file x (due.AskedData start end) s is = cancelled-in x filestore_rejection (lit< tt) s
sent-in Done file x (due.NewData start end) s is = record {
  some = s.some;
  sent = omega (arith, is.2);
  asked = λ n h. (let below : n < x.sent = s.asked n h in omega (arith, below, is.1, is.2));
  cause = s.cause;
}
sent-in Refused file x (due.NewData start end) s is = cancelled-in x filestore_rejection (lit< tt) s
sent-in stored file x due.Eof s is = kept-in x _ s (refl, refl, refl, refl, s.cause)

pub step-in : (policy : Policy) (file : List ℕ) (input : SenderInput) (x : SenderState) → IsInFile x → MayHappen input x → IsInFile (sender_step policy file input x).sender
step-in policy file (Sends stored d) x s is = sent-in stored file x d s (due-is x d is)
step-in policy file (HearsAck condition) x s is = ack-in x x.phase condition s
step-in policy file (HearsNak pairs) x s is = nak-in x x.phase pairs s
step-in policy file (HearsFinished outcome) x s is = kept-in (closed x) _ (closed-in x s) (refl, refl, refl, refl, tt)
step-in policy file (HearsKeepAlive progress) x s is = s
step-in policy file (Expires kind) x s is = expired-in kind policy x s
step-in policy file Cancels x s is = cancels-in x.phase x s
step-in policy file Suspends x s is = suspends-in x.phase x.suspended x s
step-in policy file Resumes x s is = resumes-in x.phase x.suspended x s
step-in policy file (Prompts keep_alive) x s is = prompts-in x.phase x.prompt_due keep_alive x s
