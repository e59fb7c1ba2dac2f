-- Proof-only: a transaction that is settled, and its stage then.
use Rattle.std.specs.Prelude.{◌≡◌, ◌<◌, Bool, true, false, List, [], is_some, Option, Some, None, Contains}
use Rattle.cfdp_directives.specs.declared.user.limits.Limits.{Limits}
use Rattle.cfdp_directives.specs.Pdu.Content.{Content}
use Rattle.cfdp_directives.specs.User.Put.{Put}
use Rattle.cfdp_timers.specs.declared.kind.Kind.{Kind}
use Rattle.cfdp_sender.specs.declared.phase.SenderPhase.{SenderPhase}
use Rattle.cfdp_sender.specs.declared.phase.SenderPhase.TheVariants as sending
use Rattle.cfdp_sender.specs.Due.{sender_due}
use Rattle.cfdp_sender.specs.State.{SenderState}
use Rattle.cfdp_sender.specs.Steps.{sender_waits}
use Rattle.cfdp_receiver.specs.declared.state.ReceiverPhase.TheVariants as receiving
use Rattle.cfdp_receiver.specs.Due.{receiver_due}
use Rattle.cfdp_receiver.specs.State.{ReceiverState}
use Rattle.cfdp_receiver.specs.Steps.{waits}
use Rattle.link_sim.specs.Course.{IsCourse}
use Rattle.link_sim.specs.Exchange.{AllTrue, is_closed, maybe}
use Rattle.link_sim.specs.Runs.{Exchange}
use Rattle.link_sim.specs.Work.{opening_work}

-- nothing is due at the receiver, if there is one
abbrev pub NothingDue : Option ReceiverState → Type 0
NothingDue (Some r) = receiver_due r ≡ None
NothingDue None = Unit {0}

-- Nothing is due, and nothing is on its way.
pub record IsAtRest (e : Exchange) : Type 0 where
  pub sender : sender_due e.sender ≡ None
  pub receiver : NothingDue e.receiver
  pub forth : e.forth ≡ []
  pub back : e.back ≡ []

-- ---- truthful and not suspended
abbrev pub IsActiveCourse : Put → Exchange → Type 0
IsActiveCourse put e =
    IsCourse put true false false false e.sender e.receiver e.forth e.back e.told e.told_there

-- Each record that isn't closed was sent less often than it may be: the limits at the sender's
-- station, and at the receiver's.
abbrev pub IsReceiverBelow : Limits → Option ReceiverState → Type 0
IsReceiverBelow there (Some r) = (r.phase ≡ receiving.Closed → ⊥)
    → (r.nak_count < there.nak) × (r.finished_count < there.finished)
IsReceiverBelow there None = Unit {0}

pub record IsBelow (here there : Limits) (e : Exchange) : Type 0 where
  pub sender : (e.sender.phase ≡ sending.Closed → ⊥) → e.sender.count < here.eof
  pub receiver : IsReceiverBelow there e.receiver

-- So as far as a timer is waited for that counts: an EOF that isn't acknowledged, a NAK if the EOF
-- is known, a Finished.
abbrev pub IsReceiverBelowNow : Limits → Option ReceiverState → Type 0
IsReceiverBelowNow there (Some r) =
    (r.phase ≡ receiving.Receiving → is_some r.ending ≡ true → r.nak_count < there.nak)
    × (r.phase ≡ receiving.Finishing → r.finished_count < there.finished)
IsReceiverBelowNow there None = Unit {0}

pub record IsBelowNow (here there : Limits) (e : Exchange) : Type 0 where
  pub sender : e.sender.phase ≡ sending.Sending → e.sender.acknowledged ≡ false
      → e.sender.count < here.eof
  pub receiver : IsReceiverBelowNow there e.receiver

-- A transaction that stands still until a timer of it expires.
pub record Stands (here there : Limits) (put : Put) (e : Exchange) : Type 0 where
  pub course : IsActiveCourse put e
  pub below : IsBelowNow here there e
  pub rests : IsAtRest e

-- ---- how far it has come
-- the EOF was acknowledged, or the sender is closed
abbrev pub is_answered_in : SenderPhase → (acknowledged : Bool) → Bool
is_answered_in sending.Sending acknowledged = acknowledged
is_answered_in sending.Cancelling acknowledged = false
is_answered_in sending.Closed acknowledged = true

abbrev pub is_answered : SenderState → Bool
is_answered x = is_answered_in x.phase x.acknowledged

-- Both are closed, and it was indicated complete to both users.
pub record IsCompleteExchange (e : Exchange) : Type 0 where
  pub sender : e.sender.phase ≡ sending.Closed
  pub receiver : maybe is_closed e.receiver ≡ true
  pub told : e.told ≡ true
  pub told_there : e.told_there ≡ true

-- Nothing comes of it any more: its sender is closed, and so is its receiver, or there is none and
-- no PDU on its way opens one.
abbrev pub IsOverAt : Option ReceiverState → (forth : List Content) → Type 0
IsOverAt (Some r) forth = r.phase ≡ receiving.Closed
IsOverAt None forth = AllTrue (λ v. opening_work v ≡ 0) forth

pub record IsOver (e : Exchange) : Type 0 where
  pub sender : e.sender.phase ≡ sending.Closed
  pub receiver : IsOverAt e.receiver e.forth

-- ---- timers
-- These kinds of timers expire: the sender waits for each, each once.
abbrev pub AreWaitedBySender : SenderState → List Kind → Type 0
AreWaitedBySender x ks = (k : Kind) → Contains ks k → sender_waits k x ≡ true

abbrev pub AreWaitedByReceiver : Option ReceiverState → List Kind → Type 0
AreWaitedByReceiver (Some r) ks = (k : Kind) → Contains ks k → waits k r ≡ true
AreWaitedByReceiver None ks = (k : Kind) → Contains ks k → ⊥
