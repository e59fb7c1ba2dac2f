-- The timers that a receiver waits for.
use Rattle.std.proofs.Common.{◌≡◌, ℕ, Bool, true, false, Option, Some, None, IsSome, refl, sym, ap, subst, ◌∙◌, if◌then◌else◌}
use Rattle.std.specs.FinMap as map
use Rattle.std.proofs.lemmas.Bool.{eq-eqb, false≢true, true≢false}
use Rattle.cfdp_header.specs.declared.value.TransactionId.{TransactionId}
use Rattle.cfdp_header.specs.Ids.{same_id}
use Rattle.cfdp_directives.specs.declared.user.limits.Times.{Times}
use Rattle.cfdp_timers.specs.declared.kind.Kind.{Kind}
use Rattle.cfdp_timers.specs.declared.kind.Kind.TheVariants as kind
use Rattle.cfdp_timers.specs.declared.wait.Waits.{Waits}
use Rattle.cfdp_timers.specs.Armed.{Armed, TimersState, deadline_of}
use Rattle.cfdp_timers.specs.Order.{Timer}
use Rattle.cfdp_timers.specs.Waits.{deadline_by, wait_by, wait_for, waited}
use Rattle.cfdp_receiver.specs.State.{ReceiverState}
use Rattle.cfdp_receiver.specs.Steps.{waits}
use Rattle.cfdp_receiver.specs.Does.{waits_of, timers_set}
use Rattle.cfdp_timers.specs.Waits.{is_anew}
use Rattle.cfdp_header.specs.Files.{FileMap}
use Rattle.cfdp_directives.specs.declared.pdu.addressing.Addressing.{Addressing}
use Rattle.cfdp_directives.specs.Pdu.Content.{Content}
use Rattle.cfdp_store.specs.declared.stored.Stored.{Stored}
use Rattle.cfdp_store.specs.declared.stored.Stored.TheVariants.{Done, Refused}
use Rattle.cfdp_store.specs.Staged.{OctetMap}
use Rattle.cfdp_receiver.specs.State.{opened_receiver}
use Rattle.cfdp_receiver.specs.Steps.{ReceiverAfter, opens, opened_closed}
use Rattle.cfdp_receiver.specs.Sound.{ReceiverInput, Hears, receiver_step, opens_hearing, timers_opened}

-- what the law of timers says
abbrev pub AreWaitedFor : Type 0
AreWaitedFor = (now : ℕ) (id : TransactionId) (waits : Waits) (armed : Armed) (t : Timer) →
    map.get (waited now id waits armed) t
    ≡ (if same_id id t.0 then deadline_by now (wait_for waits t.1) (map.get armed t) else map.get armed t)

itself : (id : TransactionId) → same_id id id ≡ true
itself id = rw (eq-eqb id.source id.source refl, eq-eqb id.number id.number refl) refl

some_kept : (now duration : ℕ) (waiting anew : Bool) (old : Option ℕ) → waiting ≡ true → IsSome (deadline_by now (wait_by waiting anew duration) old)
some_kept now duration true true old h = refl
some_kept now duration true false (Some at) h = refl
some_kept now duration true false None h = refl
some_kept now duration false anew old h = absurd (false≢true h)

none_left : (now duration : ℕ) (waiting anew : Bool) (old : Option ℕ) → waiting ≡ false → deadline_by now (wait_by waiting anew duration) old ≡ None
none_left now duration true anew old h = absurd (true≢false h)
none_left now duration false anew old h = refl

module _ (times : Times) (anew : Option Kind) (r : ReceiverState) (now : ℕ) (old : Option ℕ) where
  armed-by : (k : Kind) → waits k r ≡ true → IsSome (deadline_by now (wait_for (waits_of times anew r) k) old)
  armed-by kind.EofAck h = some_kept now times.eof (waits kind.EofAck r) (is_anew anew kind.EofAck) old h
  armed-by kind.Nak h = some_kept now times.nak (waits kind.Nak r) (is_anew anew kind.Nak) old h
  armed-by kind.FinishedAck h = some_kept now times.finished (waits kind.FinishedAck r) (is_anew anew kind.FinishedAck) old h
  armed-by kind.Inactivity h = some_kept now times.inactivity (waits kind.Inactivity r) (is_anew anew kind.Inactivity) old h

  clear-by : (k : Kind) → waits k r ≡ false → deadline_by now (wait_for (waits_of times anew r) k) old ≡ None
  clear-by kind.EofAck h = none_left now times.eof (waits kind.EofAck r) (is_anew anew kind.EofAck) old h
  clear-by kind.Nak h = none_left now times.nak (waits kind.Nak r) (is_anew anew kind.Nak) old h
  clear-by kind.FinishedAck h = none_left now times.finished (waits kind.FinishedAck r) (is_anew anew kind.FinishedAck) old h
  clear-by kind.Inactivity h = none_left now times.inactivity (waits kind.Inactivity r) (is_anew anew kind.Inactivity) old h

module _ (law : AreWaitedFor) (times : Times) (anew : Option Kind) (r : ReceiverState) (timers : TimersState) where
  own : (k : Kind) → deadline_of (timers_set times anew r timers) r.addressing.id k
      ≡ deadline_by timers.time (wait_for (waits_of times anew r) k) (deadline_of timers r.addressing.id k)
  own k =
      law timers.time r.addressing.id (waits_of times anew r) timers.armed (r.addressing.id, k)
      ∙ ap (λ b. if b then deadline_by timers.time (wait_for (waits_of times anew r) k) (deadline_of timers r.addressing.id k) else deadline_of timers r.addressing.id k) (itself r.addressing.id)

  pub armed-own : (k : Kind) → waits k r ≡ true → IsSome (deadline_of (timers_set times anew r timers) r.addressing.id k)
  armed-own k h = subst IsSome (sym (own k)) (armed-by times anew r timers.time (deadline_of timers r.addressing.id k) k h)

  pub clear-own : (k : Kind) → waits k r ≡ false → deadline_of (timers_set times anew r timers) r.addressing.id k ≡ None
  clear-own k h = own k ∙ clear-by times anew r timers.time (deadline_of timers r.addressing.id k) k h

  pub others-keep : (id : TransactionId) (k : Kind) → same_id r.addressing.id id ≡ false → deadline_of (timers_set times anew r timers) id k ≡ deadline_of timers id k
  others-keep id k other =
      law timers.time r.addressing.id (waits_of times anew r) timers.armed (id, k)
      ∙ ap (λ b. if b then deadline_by timers.time (wait_for (waits_of times anew r) k) (deadline_of timers id k) else deadline_of timers id k) other

-- ---- a receiver that was just opened
pub none_refused : (large : Bool) (files : FileMap) (addressing : Addressing) (k : Kind) → waits k (opens Refused large files addressing).receiver ≡ false
none_refused large files addressing kind.EofAck = refl
none_refused large files addressing kind.Nak = refl
none_refused large files addressing kind.FinishedAck = refl
none_refused large files addressing kind.Inactivity = refl

pub none_closed : (large : Bool) (condition : ℕ) (addressing : Addressing) (k : Kind) → waits k (opened_closed large condition addressing) ≡ false
none_closed large condition addressing kind.EofAck = refl
none_closed large condition addressing kind.Nak = refl
none_closed large condition addressing kind.FinishedAck = refl
none_closed large condition addressing kind.Inactivity = refl

-- no step changes the transaction
abbrev pub KeepsAddressing : Type 0
KeepsAddressing = (stored : Stored) (input : ReceiverInput) (m : OctetMap) (files : FileMap) (r : ReceiverState) → (receiver_step stored input m files r).receiver.addressing ≡ r.addressing

own_id : KeepsAddressing → (stored : Stored) (large : Bool) (v : Content) (files : FileMap) (addressing : Addressing) →
    (opens_hearing Done stored large v files addressing).receiver.addressing.id ≡ addressing.id
own_id keeps stored large v files addressing = ap (λ (a : Addressing). a.id) (keeps stored (Hears large v) map.empty files (opened_receiver addressing))

abbrev pub OwnArmed : Type 0
OwnArmed = (times : Times) (anew : Option Kind) (r : ReceiverState) (timers : TimersState) (k : Kind) → waits k r ≡ true → IsSome (deadline_of (timers_set times anew r timers) r.addressing.id k)

abbrev pub OwnClear : Type 0
OwnClear = (times : Times) (anew : Option Kind) (r : ReceiverState) (timers : TimersState) (k : Kind) → waits k r ≡ false → deadline_of (timers_set times anew r timers) r.addressing.id k ≡ None

abbrev pub OthersKept : Type 0
OthersKept = (times : Times) (anew : Option Kind) (r : ReceiverState) (timers : TimersState) (id : TransactionId) (k : Kind) → same_id r.addressing.id id ≡ false →
    deadline_of (timers_set times anew r timers) id k ≡ deadline_of timers id k

pub opened-armed : OwnArmed → KeepsAddressing → (times : Times) (begun stored : Stored) (large : Bool) (v : Content) (files : FileMap) (addressing : Addressing) (timers : TimersState) (k : Kind)
    → waits k (opens_hearing begun stored large v files addressing).receiver ≡ true
    → IsSome (deadline_of (timers_opened times begun (opens_hearing begun stored large v files addressing) timers) addressing.id k)
opened-armed law keeps times Done stored large v files addressing timers k h =
    let a : ReceiverAfter = opens_hearing Done stored large v files addressing in
    subst (λ id. IsSome (deadline_of (timers_set times a.anew a.receiver timers) id k)) (own_id keeps stored large v files addressing) (law times a.anew a.receiver timers k h)
opened-armed law keeps times Refused stored large v files addressing timers k h = absurd (false≢true (sym (none_refused large files addressing k) ∙ h))

pub opened-clear : OwnClear → KeepsAddressing → (times : Times) (begun stored : Stored) (large : Bool) (v : Content) (files : FileMap) (addressing : Addressing) (timers : TimersState) (k : Kind)
    → deadline_of timers addressing.id k ≡ None → waits k (opens_hearing begun stored large v files addressing).receiver ≡ false
    → deadline_of (timers_opened times begun (opens_hearing begun stored large v files addressing) timers) addressing.id k ≡ None
opened-clear law keeps times Done stored large v files addressing timers k none h =
    let a : ReceiverAfter = opens_hearing Done stored large v files addressing in
    subst (λ id. deadline_of (timers_set times a.anew a.receiver timers) id k ≡ None) (own_id keeps stored large v files addressing) (law times a.anew a.receiver timers k h)
opened-clear law keeps times Refused stored large v files addressing timers k none h = none

pub opened-others : OthersKept → KeepsAddressing →
    (times : Times) (begun stored : Stored) (large : Bool) (v : Content) (files : FileMap) (addressing : Addressing) (timers : TimersState) (id : TransactionId)
    (k : Kind)
    → same_id addressing.id id ≡ false
    → deadline_of (timers_opened times begun (opens_hearing begun stored large v files addressing) timers) id k ≡ deadline_of timers id k
opened-others law keeps times Done stored large v files addressing timers id k other =
    let a : ReceiverAfter = opens_hearing Done stored large v files addressing in
    law times a.anew a.receiver timers id k (ap (λ (own : TransactionId). same_id own id) (own_id keeps stored large v files addressing) ∙ other)
opened-others law keeps times Refused stored large v files addressing timers id k other = refl
