-- What a step says of a delivered file and of a failed read, and what it doesn't.
use Rattle.std.proofs.Common.{◌≡◌, ℕ, zero, suc, ◌<◌, ◌==◌, ◌||◌, Bool, true, false, List, [], ◌∷◌, length, Option, Some, None, if◌then◌else◌, refl, sym, ap, ◌∙◌, arith}
use Rattle.std.specs.Prelude.{Contains, slice_index_or}
use Rattle.std.proofs.Math.Bool.{or-true}
use Rattle.std.specs.List.{list_any}
use Rattle.std.proofs.lemmas.Bool.{false≢true, eqb-true}
use Rattle.cfdp_header.specs.declared.value.TransactionId.{TransactionId}
use Rattle.cfdp_timers.specs.declared.kind.Kind.{Kind}
use Rattle.cfdp_timers.specs.declared.kind.Kind.TheVariants.{EofAck, Nak, FinishedAck, Inactivity}
use Rattle.cfdp_directives.specs.declared.pdu.codes.Delivery.{Delivery}
use Rattle.cfdp_directives.specs.declared.pdu.codes.Delivery.TheVariants.{Complete, Incomplete}
use Rattle.cfdp_directives.specs.declared.pdu.codes.FileStatus.{FileStatus}
use Rattle.cfdp_directives.specs.declared.pdu.codes.FileStatus.TheVariants.{Discarded, Rejected, Retained, Unreported}
use Rattle.cfdp_directives.specs.declared.user.handler.Handler.{Handler}
use Rattle.cfdp_directives.specs.declared.user.handler.Handler.TheVariants.{Cancel, Suspend, Ignore, Abandon}
use Rattle.cfdp_directives.specs.declared.user.indication.Indication.{Indication}
use Rattle.cfdp_directives.specs.declared.user.indication.Indication.TheVariants as indication
use Rattle.cfdp_directives.specs.declared.user.policy.Policy.{Policy}
use Rattle.cfdp_directives.specs.declared.user.telling.Outcome.{Outcome}
use Rattle.cfdp_directives.specs.Pdu.Codes.{no_error, positive_ack_limit, inactivity, filestore_rejection}
use Rattle.cfdp_directives.specs.User.Completions.{is_complete}
use Rattle.cfdp_directives.specs.User.Policy.{another_try, finished_told, fault_told}
use Rattle.cfdp_store.specs.declared.stored.Stored.{Stored}
use Rattle.cfdp_store.specs.declared.stored.Stored.TheVariants.{Done, Refused}
use Rattle.cfdp_sender.specs.declared.phase.SenderPhase.{SenderPhase}
use Rattle.cfdp_sender.specs.declared.phase.SenderPhase.TheVariants.{Sending, Cancelling, Closed}
use Rattle.cfdp_sender.specs.declared.due.SenderDue.{SenderDue}
use Rattle.cfdp_sender.specs.declared.due.SenderDue.TheVariants as due
use Rattle.cfdp_sender.specs.State.{SenderState}
use Rattle.cfdp_sender.specs.Steps.{hearing, quiet, cancelled, closed, sender_sends, eof_told, hears_ack, end_told, progress_told, sends_again, unacknowledged_in, expires, sender_waits, sender_expires, cancels_in, suspends_in, resumes_in, prompts_in}
use Rattle.cfdp_sender.specs.Inputs.{SenderInput, Sends, HearsAck, HearsNak, HearsFinished, HearsKeepAlive, Expires, Cancels, Suspends, Resumes, Prompts, sender_step, delivered, IsFailedRead}

-- what a list contains passes some test of it
any-at : (p : Indication → Bool) (xs : List Indication) (x : Indication) (k : ℕ) → k < length xs → slice_index_or xs k x ≡ x → p x ≡ true → list_any p xs ≡ true
any-at p [] x k h is e = absurd (omega (arith, h))
any-at p (y ∷ ys) x zero h is e = ap (λ (b : Bool). b || list_any p ys) (ap p is ∙ e)
any-at p (y ∷ ys) x (suc k) h is e = ap (λ (b : Bool). p y || b) (any-at p ys x k (omega (arith, h)) is e) ∙ or-true (p y)

contains-any : (p : Indication → Bool) (xs : List Indication) (x : Indication) → Contains xs x → p x ≡ true → list_any p xs ≡ true
contains-any p xs x c e = any-at p xs x c.0 c.1 c.2 e

-- a test that passes nothing but a Finished that was heard, or a fault of the outbox
record Ignores (p : Indication → Bool) : Type 0 where
  eof_sent : (id : TransactionId) → p (indication.EofSent id) ≡ false
  progress : (id : TransactionId) (octets : ℕ) → p (indication.Progress id octets) ≡ false
  suspended : (id : TransactionId) (condition : ℕ) → p (indication.Suspended id condition) ≡ false
  resumed : (id : TransactionId) → p (indication.Resumed id) ≡ false
  abandoned : (id : TransactionId) (condition : ℕ) → p (indication.Abandoned id condition) ≡ false
  cancelled : (id : TransactionId) (condition : ℕ) → p (indication.Finished id condition Incomplete Unreported) ≡ false
  unacknowledged : (id : TransactionId) → p (indication.Fault id positive_ack_limit) ≡ false
  unheard : (id : TransactionId) → p (indication.Fault id inactivity) ≡ false

module _ (p : Indication → Bool) (ignores : Ignores p) where
  alone : (i : Indication) → p i ≡ false → list_any p (i ∷ []) ≡ false
  alone i e = ap (λ (b : Bool). b || false) e

  both : (i j : Indication) → p i ≡ false → p j ≡ false → list_any p (i ∷ j ∷ []) ≡ false
  both i j e f = ap (λ (b : Bool). b || (p j || false)) e ∙ ap (λ (b : Bool). b || false) f

  eof-ignored : (q : SenderPhase) (taken : Bool) (own : TransactionId) → list_any p (eof_told q taken own) ≡ false
  eof-ignored Sending false own = alone _ (ignores.eof_sent own)
  eof-ignored Sending true own = refl
  eof-ignored Cancelling taken own = refl
  eof-ignored Closed taken own = refl

  ack-ignored : (x : SenderState) (q : SenderPhase) (condition : ℕ) → list_any p (hears_ack q condition x).told ≡ false
  ack-ignored x Sending condition = refl
  ack-ignored x Cancelling condition = elim (condition == x.condition) as
      (λ (b : Bool). list_any p (if b then hearing (finished_told x.addressing.id (cancelled x) ∷ []) (closed x) else hearing [] x).told ≡ false) [
        | true ↦ alone _ (ignores.cancelled x.addressing.id x.condition)
        | false ↦ refl
      ]
  ack-ignored x Closed condition = refl

  progress-ignored : (q : SenderPhase) (own : TransactionId) (octets : ℕ) → list_any p (progress_told q own octets) ≡ false
  progress-ignored Sending own octets = alone _ (ignores.progress own octets)
  progress-ignored Cancelling own octets = refl
  progress-ignored Closed own octets = refl

  fault-ignored : (handler : Handler) (own : TransactionId) (condition : ℕ) → p (indication.Fault own condition) ≡ false → list_any p (fault_told handler own condition) ≡ false
  fault-ignored Cancel own condition e = alone _ e
  fault-ignored Suspend own condition e = both _ _ e (ignores.suspended own condition)
  fault-ignored Ignore own condition e = alone _ e
  fault-ignored Abandon own condition e = both _ _ e (ignores.abandoned own condition)

  unacknowledged-ignored : (x : SenderState) (q : SenderPhase) (handler : Handler) → list_any p (unacknowledged_in q handler x).told ≡ false
  unacknowledged-ignored x Sending handler = fault-ignored handler x.addressing.id _ (ignores.unacknowledged x.addressing.id)
  unacknowledged-ignored x Cancelling handler = fault-ignored Abandon x.addressing.id _ (ignores.unacknowledged x.addressing.id)
  unacknowledged-ignored x Closed handler = fault-ignored Abandon x.addressing.id _ (ignores.unacknowledged x.addressing.id)

  again-ignored : (x : SenderState) (o : Option ℕ) (handler : Handler) → list_any p (sends_again o handler x).told ≡ false
  again-ignored x (Some count) handler = refl
  again-ignored x None handler = unacknowledged-ignored x x.phase handler

  expires-ignored : (kind : Kind) (policy : Policy) (x : SenderState) → list_any p (expires kind policy x).told ≡ false
  expires-ignored EofAck policy x = again-ignored x (another_try x.count policy.limits.eof) policy.handlers.ack
  expires-ignored Inactivity policy x = fault-ignored policy.handlers.inactivity x.addressing.id _ (ignores.unheard x.addressing.id)
  expires-ignored Nak policy x = refl
  expires-ignored FinishedAck policy x = refl

  expired-ignored : (kind : Kind) (policy : Policy) (x : SenderState) → list_any p (sender_expires kind policy x).told ≡ false
  expired-ignored kind policy x = elim (sender_waits kind x) as (λ (b : Bool). list_any p (if b then expires kind policy x else quiet x).told
      ≡ false) [ true ↦ expires-ignored kind policy x | false ↦ refl ]

  cancels-ignored : (x : SenderState) (q : SenderPhase) → list_any p (cancels_in q x).told ≡ false
  cancels-ignored x Sending = refl
  cancels-ignored x Cancelling = refl
  cancels-ignored x Closed = refl

  suspends-ignored : (x : SenderState) (q : SenderPhase) (b : Bool) → list_any p (suspends_in q b x).told ≡ false
  suspends-ignored x Sending true = refl
  suspends-ignored x Sending false = alone _ (ignores.suspended x.addressing.id _)
  suspends-ignored x Cancelling b = refl
  suspends-ignored x Closed b = refl

  resumes-ignored : (x : SenderState) (q : SenderPhase) (b : Bool) → list_any p (resumes_in q b x).told ≡ false
  resumes-ignored x Sending true = alone _ (ignores.resumed x.addressing.id)
  resumes-ignored x Sending false = refl
  resumes-ignored x Cancelling b = refl
  resumes-ignored x Closed b = refl

  prompts-ignored : (x : SenderState) (q : SenderPhase) (o : Option Bool) (keep_alive : Bool) → list_any p (prompts_in q o keep_alive x).told ≡ false
  prompts-ignored x Sending None keep_alive = refl
  prompts-ignored x Sending (Some other) keep_alive = refl
  prompts-ignored x Cancelling o keep_alive = refl
  prompts-ignored x Closed o keep_alive = refl

-- ---- indicated complete
is_delivered : Indication → Bool
is_delivered (indication.Finished id condition delivery status) = is_complete condition delivery status
is_delivered _ = false

ignores-delivered : Ignores is_delivered
unfolding is_delivered
ignores-delivered = record {
  eof_sent = λ id. refl;
  progress = λ id octets. refl;
  suspended = λ id condition. refl;
  resumed = λ id. refl;
  abandoned = λ id condition. refl;
  cancelled = λ id condition. refl;
  unacknowledged = λ id. refl;
  unheard = λ id. refl;
}

complete-is : (condition : ℕ) (delivery : Delivery) (status : FileStatus) → is_complete condition delivery status ≡ true → record { condition = condition; delivery = delivery; status = status }
    ≡ delivered
complete-is condition Complete Retained e = ap make (eqb-true condition no_error e)
  where
    make : ℕ → Outcome
    make c = record { condition = c; delivery = Complete; status = Retained }
complete-is condition Complete Discarded e = absurd (false≢true e)
complete-is condition Complete Rejected e = absurd (false≢true e)
complete-is condition Complete Unreported e = absurd (false≢true e)
complete-is condition Incomplete status e = absurd (false≢true e)

or-false : (b : Bool) → (b || false) ≡ true → b ≡ true
or-false true e = refl
or-false false e = e

ended : (x : SenderState) (q : SenderPhase) (o : Outcome) → list_any is_delivered (end_told q o x) ≡ true → o ≡ delivered
unfolding is_delivered
ended x Sending o e = complete-is o.condition o.delivery o.status (or-false _ e)
ended x Cancelling o e = absurd (false≢true e)
ended x Closed o e = absurd (false≢true e)

sent-untold : (stored : Stored) (file : List ℕ) (x : SenderState) (d : SenderDue) → list_any is_delivered (sender_sends stored file x d).told ≡ false
unfolding is_delivered
sent-untold stored file x (due.AckOfFinished condition) = refl
sent-untold stored file x (due.Prompt keep_alive) = refl
sent-untold stored file x due.Metadata = refl
sent-untold Done file x (due.AskedData start end) = refl
sent-untold Refused file x (due.AskedData start end) = refl
sent-untold Done file x (due.NewData start end) = refl
sent-untold Refused file x (due.NewData start end) = refl
sent-untold stored file x due.Eof = eof-ignored is_delivered ignores-delivered x.phase x.eof_taken x.addressing.id

-- it is indicated by a Finished that was heard and says so, and by nothing else
told-by : (policy : Policy) (file : List ℕ) (input : SenderInput) (x : SenderState) → list_any is_delivered (sender_step policy file input x).told ≡ true → input ≡ HearsFinished delivered
told-by policy file (Sends stored d) x e = absurd (false≢true (sym (sent-untold stored file x d) ∙ e))
told-by policy file (HearsAck condition) x e = absurd (false≢true (sym (ack-ignored is_delivered ignores-delivered x x.phase condition) ∙ e))
told-by policy file (HearsNak pairs) x e = absurd (false≢true e)
told-by policy file (HearsFinished outcome) x e = ap HearsFinished (ended x x.phase outcome e)
told-by policy file (HearsKeepAlive progress) x e = absurd (false≢true (sym (progress-ignored is_delivered ignores-delivered x.phase x.addressing.id progress) ∙ e))
told-by policy file (Expires kind) x e = absurd (false≢true (sym (expired-ignored is_delivered ignores-delivered kind policy x) ∙ e))
told-by policy file Cancels x e = absurd (false≢true (sym (cancels-ignored is_delivered ignores-delivered x x.phase) ∙ e))
told-by policy file Suspends x e = absurd (false≢true (sym (suspends-ignored is_delivered ignores-delivered x x.phase x.suspended) ∙ e))
told-by policy file Resumes x e = absurd (false≢true (sym (resumes-ignored is_delivered ignores-delivered x x.phase x.suspended) ∙ e))
told-by policy file (Prompts keep_alive) x e = absurd (false≢true (sym (prompts-ignored is_delivered ignores-delivered x x.phase x.prompt_due keep_alive) ∙ e))

pub told-complete : (policy : Policy) (file : List ℕ) (input : SenderInput) (x : SenderState) (id : TransactionId)
    → Contains (sender_step policy file input x).told (indication.Finished id no_error Complete Retained) → input ≡ HearsFinished delivered
unfolding is_delivered
told-complete policy file input x id c = told-by policy file input x (contains-any is_delivered _ _ c refl)

-- ---- a failed read
is_source_fault : Indication → Bool
is_source_fault (indication.Fault id condition) = condition == filestore_rejection
is_source_fault _ = false

ignores-fault : Ignores is_source_fault
unfolding is_source_fault
ignores-fault = record {
  eof_sent = λ id. refl;
  progress = λ id octets. refl;
  suspended = λ id condition. refl;
  resumed = λ id. refl;
  abandoned = λ id condition. refl;
  cancelled = λ id condition. refl;
  unacknowledged = λ id. refl;
  unheard = λ id. refl;
}

sent-fault : (stored : Stored) (file : List ℕ) (x : SenderState) (d : SenderDue) → list_any is_source_fault (sender_sends stored file x d).told ≡ true → IsFailedRead (Sends stored d)
unfolding is_source_fault
sent-fault stored file x (due.AckOfFinished condition) e = absurd (false≢true e)
sent-fault stored file x (due.Prompt keep_alive) e = absurd (false≢true e)
sent-fault stored file x due.Metadata e = absurd (false≢true e)
sent-fault Done file x (due.AskedData start end) e = absurd (false≢true e)
sent-fault Refused file x (due.AskedData start end) e = refl
sent-fault Done file x (due.NewData start end) e = absurd (false≢true e)
sent-fault Refused file x (due.NewData start end) e = refl
sent-fault stored file x due.Eof e = absurd (false≢true (sym (eof-ignored is_source_fault ignores-fault x.phase x.eof_taken x.addressing.id) ∙ e))

ended-fault : (x : SenderState) (q : SenderPhase) (o : Outcome) → list_any is_source_fault (end_told q o x) ≡ false
unfolding is_source_fault
ended-fault x Sending o = refl
ended-fault x Cancelling o = refl
ended-fault x Closed o = refl

fault-by : (policy : Policy) (file : List ℕ) (input : SenderInput) (x : SenderState) → list_any is_source_fault (sender_step policy file input x).told ≡ true → IsFailedRead input
fault-by policy file (Sends stored d) x e = sent-fault stored file x d e
fault-by policy file (HearsAck condition) x e = absurd (false≢true (sym (ack-ignored is_source_fault ignores-fault x x.phase condition) ∙ e))
fault-by policy file (HearsNak pairs) x e = absurd (false≢true e)
fault-by policy file (HearsFinished outcome) x e = absurd (false≢true (sym (ended-fault x x.phase outcome) ∙ e))
fault-by policy file (HearsKeepAlive progress) x e = absurd (false≢true (sym (progress-ignored is_source_fault ignores-fault x.phase x.addressing.id progress) ∙ e))
fault-by policy file (Expires kind) x e = absurd (false≢true (sym (expired-ignored is_source_fault ignores-fault kind policy x) ∙ e))
fault-by policy file Cancels x e = absurd (false≢true (sym (cancels-ignored is_source_fault ignores-fault x x.phase) ∙ e))
fault-by policy file Suspends x e = absurd (false≢true (sym (suspends-ignored is_source_fault ignores-fault x x.phase x.suspended) ∙ e))
fault-by policy file Resumes x e = absurd (false≢true (sym (resumes-ignored is_source_fault ignores-fault x x.phase x.suspended) ∙ e))
fault-by policy file (Prompts keep_alive) x e = absurd (false≢true (sym (prompts-ignored is_source_fault ignores-fault x x.phase x.prompt_due keep_alive) ∙ e))

pub source-fault : (policy : Policy) (file : List ℕ) (input : SenderInput) (x : SenderState) (id : TransactionId)
    → Contains (sender_step policy file input x).told (indication.Fault id filestore_rejection) → IsFailedRead input
unfolding is_source_fault
source-fault policy file input x id c = fault-by policy file input x (contains-any is_source_fault _ _ c refl)
