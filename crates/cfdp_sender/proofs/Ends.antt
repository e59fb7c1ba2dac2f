-- How often a sender says that it is finished, and of what.
use Rattle.std.proofs.Common.{◌≡◌, ℕ, ◌+◌, ◌==◌, ◌&&◌, not, min, nat_lt, ◌⊎◌, inl, inr, cond, Bool, true, false, List, [], ◌∷◌, Option, Some, None, if◌then◌else◌, refl, sym, ap, subst, ◌∙◌, arith}
use Rattle.std.specs.FinSet as set
use Rattle.std.proofs.Math.Bool.{and-false}
use Rattle.std.proofs.lemmas.Bool.{false≢true}
use Rattle.cfdp_directives.proofs.Puts.{finished-last}
use Rattle.cfdp_extents.specs.Offsets.{range}
use Rattle.cfdp_header.specs.declared.value.TransactionId.{TransactionId}
use Rattle.cfdp_header.specs.Ids.{same_id}
use Rattle.cfdp_header.proofs.Ids.{same_id-itself}
use Rattle.cfdp_timers.specs.declared.kind.Kind.{Kind}
use Rattle.cfdp_timers.specs.declared.kind.Kind.TheVariants.{EofAck, Nak, FinishedAck, Inactivity}
use Rattle.cfdp_directives.specs.declared.user.handler.Handler.{Handler}
use Rattle.cfdp_directives.specs.declared.user.handler.Handler.TheVariants.{Cancel, Suspend, Ignore, Abandon}
use Rattle.cfdp_directives.specs.declared.user.policy.Policy.{Policy}
use Rattle.cfdp_directives.specs.declared.user.telling.Outcome.{Outcome}
use Rattle.cfdp_directives.specs.User.Policy.{another_try, finished_told, fault_told}
use Rattle.cfdp_store.specs.declared.stored.Stored.{Stored}
use Rattle.cfdp_store.specs.declared.stored.Stored.TheVariants.{Done, Refused}
use Rattle.cfdp_sender.specs.declared.phase.SenderPhase.{SenderPhase}
use Rattle.cfdp_sender.specs.declared.phase.SenderPhase.TheVariants.{Sending, Cancelling, Closed}
use Rattle.cfdp_sender.specs.declared.due.SenderDue.{SenderDue}
use Rattle.cfdp_sender.specs.declared.due.SenderDue.TheVariants as due
use Rattle.cfdp_sender.specs.State.{SenderState}
use Rattle.cfdp_sender.specs.Due.{sender_due, ack_first, phase_due}
use Rattle.cfdp_sender.specs.Steps.{SenderAfter, hearing, quiet, cancelled, closed, sender_sends, eof_told, hears_ack, asks, asks_all, asks_in, end_told, progress_told, sends_again, unacknowledged_in, expires, sender_waits, sender_expires, waits_for_eof_ack, waits_for_anything, cancels_in, suspends_in, resumes_in, prompts_in}
use Rattle.cfdp_sender.specs.Inputs.{SenderInput, Sends, HearsAck, HearsNak, HearsFinished, HearsKeepAlive, Expires, Cancels, Suspends, Resumes, Prompts, MayHappen, sender_step, finished_count, FinishesOnce}

-- nothing in a list says that a transaction is finished
abbrev pub Untold : SenderAfter → Type 0
Untold a = (id : TransactionId) → finished_count id a.told ≡ 0

abbrev one_if : Bool → ℕ
one_if b = cond b 1 0

none-once : (x : SenderState) (a : SenderAfter) → Untold a → (x.phase ≡ Closed → a.sender.phase ≡ Closed) → FinishesOnce x a
none-once x a none stays = record {
  once = let e = none x.addressing.id in omega (arith, e);
  closes = λ some. let e = none x.addressing.id in absurd (omega (arith, e, some));
  none = λ _. none x.addressing.id;
  stays = stays;
  own = λ other _. none other;
}

one-once : (x : SenderState) (a : SenderAfter) (o : Outcome) → a.told ≡ finished_told x.addressing.id o ∷ [] → (x.phase ≡ Closed → ⊥) → a.sender.phase ≡ Closed → FinishesOnce x a
one-once x a o told before now = record {
  once = let e = one in omega (arith, e);
  closes = λ _. now;
  none = λ closed. absurd (before closed);
  stays = λ _. now;
  own = λ other differs. ap (finished_count other) told ∙ counted other false differs;
}
  where
    counted : (id : TransactionId) (b : Bool) → same_id x.addressing.id id ≡ b → finished_count id (finished_told x.addressing.id o ∷ []) ≡ one_if b
    counted id b e =
        let last : finished_count id (finished_told x.addressing.id o ∷ []) ≡ 0 + one_if (same_id x.addressing.id id) = finished-last id [] (finished_told x.addressing.id o) in
        let same : one_if (same_id x.addressing.id id) ≡ one_if b = ap one_if e in
        omega (arith, last, same)

    one : finished_count x.addressing.id a.told ≡ 1
    one = ap (finished_count x.addressing.id) told ∙ counted x.addressing.id true (same_id-itself x.addressing.id)

-- ---- sending: only what was closed before is closed, and its Eof isn't due
eof-untold : (p : SenderPhase) (taken : Bool) (own id : TransactionId) → finished_count id (eof_told p taken own) ≡ 0
eof-untold Sending false own id = refl
eof-untold Sending true own id = refl
eof-untold Cancelling taken own id = refl
eof-untold Closed taken own id = refl

-- what carries data isn't due of a closed one
pub not-closed : (x : SenderState) (start end : ℕ) → x.phase ≡ Closed → (sender_due x ≡ Some (due.AskedData start end)) ⊎ (sender_due x ≡ Some (due.NewData start end)) → ⊥
not-closed x start end is h = by_suspended x.suspended refl
  where
    by_ack : (o : Option ℕ) → (ack_first o x ≡ Some (due.AskedData start end)) ⊎ (ack_first o x ≡ Some (due.NewData start end)) → ⊥
    by_ack (Some condition) (inl e) = cc
    by_ack (Some condition) (inr e) = cc
    by_ack None (inl e) = let none : phase_due Closed x ≡ Some (due.AskedData start end) = ap (λ p. phase_due p x) (sym is) ∙ e in cc
    by_ack None (inr e) = let none : phase_due Closed x ≡ Some (due.NewData start end) = ap (λ p. phase_due p x) (sym is) ∙ e in cc

    by_suspended : (b : Bool) → x.suspended ≡ b → ⊥
    by_suspended b e = elim b as (λ c. ((if c then None else ack_first x.ack_due x) ≡ Some (due.AskedData start end)) ⊎ ((if c then None else ack_first x.ack_due x) ≡ Some (due.NewData start end)) →
        ⊥) [
          | true ↦ λ g. elim g [ inl k ↦ cc | inr k ↦ cc ]
          | false ↦ λ g. by_ack x.ack_due g
        ] (subst (λ c. ((if c then None else ack_first x.ack_due x) ≡ Some (due.AskedData start end)) ⊎ ((if c then None else ack_first x.ack_due x) ≡ Some (due.NewData start end))) e h)

sends-once : (stored : Stored) (file : List ℕ) (x : SenderState) (d : SenderDue) → sender_due x ≡ Some d → FinishesOnce x (sender_sends stored file x d)
sends-once stored file x (due.AckOfFinished condition) is = none-once x _ (λ _. refl) (λ c. c)
sends-once stored file x (due.Prompt keep_alive) is = none-once x _ (λ _. refl) (λ c. c)
sends-once stored file x due.Metadata is = none-once x _ (λ _. refl) (λ c. c)
sends-once Done file x (due.AskedData start end) is = none-once x _ (λ _. refl) (λ c. c)
sends-once Refused file x (due.AskedData start end) is = none-once x _ (λ _. refl) (λ c. absurd (not-closed x start end c (inl is)))
sends-once Done file x (due.NewData start end) is = none-once x _ (λ _. refl) (λ c. c)
sends-once Refused file x (due.NewData start end) is = none-once x _ (λ _. refl) (λ c. absurd (not-closed x start end c (inr is)))
sends-once stored file x due.Eof is = none-once x _ (eof-untold x.phase x.eof_taken x.addressing.id) (λ c. c)

-- ---- hearing
ack-once : (x : SenderState) (p : SenderPhase) (condition : ℕ) → x.phase ≡ p → FinishesOnce x (hears_ack p condition x)
ack-once x Sending condition is = none-once x _ (λ _. refl) (λ c. absurd (cc))
ack-once x Cancelling condition is = elim (condition == x.condition) as
    (λ (b : Bool). FinishesOnce x (if b then hearing (finished_told x.addressing.id (cancelled x) ∷ []) (closed x) else hearing [] x)) [
      | true ↦ one-once x _ (cancelled x) refl (λ c. absurd (cc)) refl
      | false ↦ none-once x _ (λ _. refl) (λ c. c)
    ]
ack-once x Closed condition is = none-once x _ (λ _. refl) (λ c. c)

asks-phase : (p : ℕ × ℕ) (x : SenderState) → (asks p x).phase ≡ x.phase
asks-phase p x = elim ((p.0 == 0) && (p.1 == 0)) as (λ b. (if b then record x { metadata_due = true }
    else (if nat_lt p.0 (min p.1 x.sent) then record x { asked = set.union x.asked (range p.0 (min p.1 x.sent)) } else x)).phase ≡ x.phase) [
      | true ↦ refl
      | false ↦ elim (nat_lt p.0 (min p.1 x.sent)) as (λ (b : Bool). (if b then record x {
        asked = set.union x.asked (range p.0
            (min p.1 x.sent));
      } else x).phase ≡ x.phase) [ true ↦ refl | false ↦ refl ]
    ]

asks_all-phase : (ps : List (ℕ × ℕ)) (x : SenderState) → (asks_all ps x).phase ≡ x.phase
asks_all-phase [] x = refl
asks_all-phase (p ∷ ps) x = asks_all-phase ps (asks p x) ∙ asks-phase p x

nak-phase : (p : SenderPhase) (ps : List (ℕ × ℕ)) (x : SenderState) → (asks_in p ps x).phase ≡ x.phase
nak-phase Sending ps x = asks_all-phase ps x
nak-phase Cancelling ps x = refl
nak-phase Closed ps x = refl

finished-once : (x : SenderState) (p : SenderPhase) (o : Outcome) → x.phase ≡ p → FinishesOnce x (hearing (end_told p o x) (record (closed x) { ack_due = Some o.condition }))
finished-once x Sending o is = one-once x _ o refl (λ c. absurd (cc)) refl
finished-once x Cancelling o is = one-once x _ (cancelled x) refl (λ c. absurd (cc)) refl
finished-once x Closed o is = none-once x _ (λ _. refl) (λ _. refl)

progress-untold : (p : SenderPhase) (own : TransactionId) (octets : ℕ) (id : TransactionId) → finished_count id (progress_told p own octets) ≡ 0
progress-untold Sending own octets id = refl
progress-untold Cancelling own octets id = refl
progress-untold Closed own octets id = refl

-- ---- timers
fault-untold : (handler : Handler) (own : TransactionId) (condition : ℕ) (id : TransactionId) → finished_count id (fault_told handler own condition) ≡ 0
fault-untold Cancel own condition id = refl
fault-untold Suspend own condition id = refl
fault-untold Ignore own condition id = refl
fault-untold Abandon own condition id = refl

unacknowledged-once : (x : SenderState) (p : SenderPhase) (handler : Handler) → x.phase ≡ p → (x.phase ≡ Closed → ⊥) → FinishesOnce x (unacknowledged_in p handler x)
unacknowledged-once x Sending handler is open_yet = none-once x _ (fault-untold handler x.addressing.id _) (λ c. absurd (open_yet c))
unacknowledged-once x Cancelling handler is open_yet = none-once x _ (λ _. refl) (λ c. absurd (open_yet c))
unacknowledged-once x Closed handler is open_yet = absurd (open_yet is)

again-once : (x : SenderState) (o : Option ℕ) (handler : Handler) → (x.phase ≡ Closed → ⊥) → FinishesOnce x (sends_again o handler x)
again-once x (Some count) handler open_yet = none-once x _ (λ _. refl) (λ c. c)
again-once x None handler open_yet = unacknowledged-once x x.phase handler refl open_yet

-- what is closed waits for nothing
pub waits-open : (kind : Kind) (x : SenderState) → sender_waits kind x ≡ true → x.phase ≡ Closed → ⊥
waits-open EofAck x w is = let none : (not x.suspended && waits_for_eof_ack Closed x) ≡ true = ap (λ p. not x.suspended && waits_for_eof_ack p x) (sym is) ∙ w in
    false≢true (sym (and-false (not x.suspended)) ∙ none)
waits-open Inactivity x w is = let none : (not x.suspended && waits_for_anything Closed x) ≡ true = ap (λ p. not x.suspended && waits_for_anything p x) (sym is) ∙ w in
    false≢true (sym (and-false (not x.suspended)) ∙ none)
waits-open Nak x w is = false≢true w
waits-open FinishedAck x w is = false≢true w

expires-once : (kind : Kind) (policy : Policy) (x : SenderState) → (x.phase ≡ Closed → ⊥) → FinishesOnce x (expires kind policy x)
expires-once EofAck policy x open_yet = again-once x (another_try x.count policy.limits.eof) policy.handlers.ack open_yet
expires-once Inactivity policy x open_yet = none-once x _ (fault-untold policy.handlers.inactivity x.addressing.id _) (λ c. absurd (open_yet c))
expires-once Nak policy x open_yet = none-once x _ (λ _. refl) (λ c. c)
expires-once FinishedAck policy x open_yet = none-once x _ (λ _. refl) (λ c. c)

expired-once : (kind : Kind) (policy : Policy) (x : SenderState) → FinishesOnce x (sender_expires kind policy x)
expired-once kind policy x = elim (sender_waits kind x) as (λ b. sender_waits kind x ≡ b → FinishesOnce x (if b then expires kind policy x else quiet x)) [
  | true ↦ λ w. expires-once kind policy x (waits-open kind x w)
  | false ↦ λ _. none-once x _ (λ _. refl) (λ c. c)
] refl

-- ---- calls
cancels-once : (x : SenderState) (p : SenderPhase) → x.phase ≡ p → FinishesOnce x (cancels_in p x)
cancels-once x Sending is = none-once x _ (λ _. refl) (λ c. absurd (cc))
cancels-once x Cancelling is = none-once x _ (λ _. refl) (λ c. c)
cancels-once x Closed is = none-once x _ (λ _. refl) (λ c. c)

suspends-once : (x : SenderState) (p : SenderPhase) (b : Bool) → FinishesOnce x (suspends_in p b x)
suspends-once x Sending true = none-once x _ (λ _. refl) (λ c. c)
suspends-once x Sending false = none-once x _ (λ _. refl) (λ c. c)
suspends-once x Cancelling b = none-once x _ (λ _. refl) (λ c. c)
suspends-once x Closed b = none-once x _ (λ _. refl) (λ c. c)

resumes-once : (x : SenderState) (p : SenderPhase) (b : Bool) → FinishesOnce x (resumes_in p b x)
resumes-once x Sending true = none-once x _ (λ _. refl) (λ c. c)
resumes-once x Sending false = none-once x _ (λ _. refl) (λ c. c)
resumes-once x Cancelling b = none-once x _ (λ _. refl) (λ c. c)
resumes-once x Closed b = none-once x _ (λ _. refl) (λ c. c)

prompts-once : (x : SenderState) (p : SenderPhase) (o : Option Bool) (keep_alive : Bool) → FinishesOnce x (prompts_in p o keep_alive x)
prompts-once x Sending None keep_alive = none-once x _ (λ _. refl) (λ c. c)
prompts-once x Sending (Some other) keep_alive = none-once x _ (λ _. refl) (λ c. c)
prompts-once x Cancelling o keep_alive = none-once x _ (λ _. refl) (λ c. c)
prompts-once x Closed o keep_alive = none-once x _ (λ _. refl) (λ c. c)

pub step-once : (policy : Policy) (file : List ℕ) (input : SenderInput) (x : SenderState) → MayHappen input x → FinishesOnce x (sender_step policy file input x)
step-once policy file (Sends stored d) x is = sends-once stored file x d is
step-once policy file (HearsAck condition) x is = ack-once x x.phase condition refl
step-once policy file (HearsNak pairs) x is = none-once x _ (λ _. refl) (λ c. nak-phase x.phase pairs x ∙ c)
step-once policy file (HearsFinished outcome) x is = finished-once x x.phase outcome refl
step-once policy file (HearsKeepAlive progress) x is = none-once x _ (progress-untold x.phase x.addressing.id progress) (λ c. c)
step-once policy file (Expires kind) x is = expired-once kind policy x
step-once policy file Cancels x is = cancels-once x x.phase refl
step-once policy file Suspends x is = suspends-once x x.phase x.suspended
step-once policy file Resumes x is = resumes-once x x.phase x.suspended
step-once policy file (Prompts keep_alive) x is = prompts-once x x.phase x.prompt_due keep_alive
