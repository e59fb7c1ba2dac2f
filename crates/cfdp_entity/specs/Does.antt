-- How a call of a record, or of the machine of its side, is tied to its step.
use Rattle.std.specs.Prelude.{◌≡◌, ◌++◌, ℕ, Bool, true, List, [], Option, Some, None}
use Rattle.std.specs.FinSet as set
use Rattle.cfdp_header.specs.Files.{FileMap}
use Rattle.cfdp_header.specs.declared.value.TransactionId.{TransactionId}
use Rattle.cfdp_directives.specs.declared.pdu.codes.Acknowledged.{Acknowledged}
use Rattle.cfdp_directives.specs.declared.pdu.codes.Acknowledged.TheVariants as acknowledged
use Rattle.cfdp_directives.specs.declared.user.limits.Times.{Times}
use Rattle.cfdp_directives.specs.Pdu.Content.{Content, FileData, Metadata, Nak}
use Rattle.cfdp_store.specs.declared.inbox.Inbox.{Ghosts as Inbox}
use Rattle.cfdp_store.specs.declared.stored.Stored.{Stored}
use Rattle.cfdp_store.specs.declared.stored.Stored.TheVariants.{Done}
use Rattle.cfdp_store.specs.Chains.{Raises}
use Rattle.cfdp_store.specs.Staged.{OctetMap, OthersKeep, staged_for}
use Rattle.cfdp_store.specs.Stores.{Counts}
use Rattle.cfdp_timers.specs.declared.effects.Effects.{Effects}
use Rattle.cfdp_timers.specs.declared.kind.Kind.{Kind}
use Rattle.cfdp_timers.specs.Effects.{HasRoom}
use Rattle.cfdp_sender.specs.State.{SenderState}
use Rattle.cfdp_sender.specs.Steps as sender
use Rattle.cfdp_sender.specs.Does as sender_does
use Rattle.cfdp_receiver.specs.State.{ReceiverState, IsReady}
use Rattle.cfdp_receiver.specs.Steps as receiver
use Rattle.cfdp_receiver.specs.Does as receiver_does
use Rattle.cfdp_receiver.specs.Does.{Scene}
use Rattle.cfdp_receiver.specs.declared.due.Due.{Due}
use Rattle.cfdp_receiver.specs.Due.{receiver_says}
use Rattle.cfdp_entity.specs.declared.request.Request.{Request}
use Rattle.cfdp_entity.specs.declared.record.Gave.{Gave}
use Rattle.cfdp_entity.specs.declared.record.Gave.TheVariants.{Octets, Failed}
use Rattle.cfdp_entity.specs.declared.record.Record.{Record}
use Rattle.cfdp_entity.specs.Desk.{DeskState}
use Rattle.cfdp_entity.specs.Gives.{Gives, CountsOutbox, stored_by_gave}
use Rattle.cfdp_entity.specs.Seen.{Seen, seen, octets_of, len_of, due_octets, due_len, carries_data}
use Rattle.cfdp_entity.specs.Steps.{After, with_waits, hears, expires, calls, takes, Spoils}
use Rattle.cfdp_entity.specs.Storing.{AsksAs}
use Rattle.cfdp_entity.specs.Whole.{id_of, IsReadyRecord}

-- ---- a step, by what it finds on the desk
abbrev pub hearing : Stored → (large : Bool) → Content → DeskState → Seen → After
hearing stored large v desk s = hears stored desk.policy.times desk.files large v s

abbrev pub expiring : Kind → DeskState → Seen → After
expiring k desk s = expires desk.policy desk.files k s

abbrev pub calling : Request → DeskState → Seen → After
calling c desk s = calls desk.policy.times desk.files c s

abbrev pub taking : Stored → DeskState → Seen → After
taking stored desk s = takes stored desk.policy.times desk.sources desk.files s

-- ---- a call of a record
-- The record of a transaction made this step.
pub record Does (id : TransactionId) (after : After) (now : Seen) (old new : DeskState) : Type 0
  where
    pub state : now ≡ after.seen
    pub tells : new.effects.told.items ≡ old.effects.told.items ++ after.told
    pub timers : new.effects.timers ≡ record old.effects.timers {
      armed = with_waits old.effects.timers.time id after.waits old.effects.timers.armed;
    }
    pub files : new.files ≡ after.files

-- how a record is seen, if its transaction is the one before's
abbrev pub seen_as : (before now : Record) → DeskState → Seen
seen_as before now desk = seen (desk.staged (id_of before)) now

-- A call made this step of the record before, which left the record now.
abbrev pub Made : (DeskState → Seen → After) → (before now : Record) → (old new : DeskState) →
    Type 0
Made step before now old new =
    Does (id_of before) (step old (seen_as before before old)) (seen_as before now new) old new

-- If it found no memory for a PDU, all but the record is as it was.
pub record Keeps (v : Content) (before now : Record) (old new : DeskState) : Type 0 where
  pub state : Spoils v (seen_as before before old) (seen_as before now new)
  pub tells : new.effects.told.items ≡ old.effects.told.items
  pub timers : new.effects.timers ≡ old.effects.timers
  pub files : new.files ≡ old.files
  pub inbox : new.inbox_failures ≡ old.inbox_failures
  pub outbox : new.outbox_failures ≡ old.outbox_failures

-- The record stays ready, and nothing else changes on the desk except by its step.
pub record Stays (before now : Record) (old new : DeskState) : Type 0 where
  pub ready : IsReadyRecord new.staged new.sources (id_of before) now
  pub others : OthersKeep (id_of before) old.staged new.staged
  pub sources : new.sources ≡ old.sources
  pub stands : new.stands ≡ old.stands
  pub policy : new.policy ≡ old.policy

-- The PDU that was due was taken, or the outbox failed to give its octets, and that was counted.
pub record Sent (gave : Gave) (before now : Record) (old new : DeskState)
    (out_before out_now : List ℕ) : Type 0 where
  pub made : Made (taking (stored_by_gave gave)) before now old new
  pub gives : Gives (due_octets old.sources (seen_as before before old))
      (due_len old.sources (seen_as before before old)) gave out_before out_now
  pub carries : gave ≡ Failed → carries_data (seen_as before before old) ≡ true
  pub counts : CountsOutbox (stored_by_gave gave) old.outbox_failures new.outbox_failures
  pub inbox : new.inbox_failures ≡ old.inbox_failures

-- The step asked this of the inbox, which answered so, and nothing of the outbox.
pub record Asked (stored : Stored) (Asks : (r s : ReceiverState) → (old new : ℕ) → Type 0)
    (before now : Record) (old new : DeskState) : Type 0 where
  pub counts : Counts stored old.inbox_failures new.inbox_failures
  pub raises : AsksAs Raises Asks (seen_as before before old) (seen_as before now new)
      old.inbox_failures new.inbox_failures
  pub outbox : new.outbox_failures ≡ old.outbox_failures

-- ---- a new record
-- a desk whose timers have the room that they have on another
abbrev pub with_room_of : DeskState → DeskState → DeskState
with_room_of new old = record old {
  effects = record old.effects {
    timers = record old.effects.timers { roomy = new.effects.timers.roomy };
  };
}

-- The record of a transaction was opened by this step.
pub record Opens (id : TransactionId) (after : After) (now : Record) (old new : DeskState) : Type 0
  where
    pub does : Does id after (seen (new.staged id) now) (with_room_of new old) new
    pub ready : IsReadyRecord new.staged new.sources id now
    pub has_room : set.contains new.effects.timers.roomy id ≡ true

-- None was opened, since there was no memory: at most, timers have more room.
pub record OpensNone (old new : DeskState) : Type 0 where
  pub tells : new.effects.told.items ≡ old.effects.told.items
  pub timers : new.effects.timers ≡ (with_room_of new old).effects.timers
  pub files : new.files ≡ old.files
  pub inbox : new.inbox_failures ≡ old.inbox_failures

-- The records of other transactions stay ready.
pub record Widens (id : TransactionId) (old new : DeskState) : Type 0 where
  pub roomier : (other : TransactionId) → set.contains old.effects.timers.roomy other ≡ true
      → set.contains new.effects.timers.roomy other ≡ true
  pub others : OthersKeep id old.staged new.staged
  pub sources : new.sources ≡ old.sources
  pub stands : new.stands ≡ old.stands
  pub policy : new.policy ≡ old.policy
  pub outbox : new.outbox_failures ≡ old.outbox_failures

-- ---- a call of a machine
-- a call of a sender made this step, if it makes one
abbrev pub SenderDoes : Times → Option sender.SenderAfter → (before now : SenderState) →
    (old new : Effects) → Type 0
SenderDoes times (Some a) before now old new = sender_does.Does times a now old new
SenderDoes times None before now old new = (now ≡ before) × (new ≡ old)

-- if it found no memory for a NAK, it may have asked for some of its pairs
abbrev pub SenderKeeps : Content → (before now : SenderState) → (old new : Effects) → Type 0
SenderKeeps (Nak start end pairs) before now old new =
    sender_does.AsksSome pairs before now × (new ≡ old)
SenderKeeps _ before now old new = ⊥

-- A receiver can make a step: there must be room for it, and what it holds must be staged.
pub record MayReceive {S : Type 0} (inbox : Inbox S) (r : ReceiverState) (effects : Effects) (s : S)
    : Type 0 where
  pub room : HasRoom r.addressing.id effects
  pub ready : IsReady (inbox.staged s) r

-- a call of a receiver left this, if it makes a step
abbrev pub ReceiverDoes : Times → Stored → Option receiver.ReceiverAfter → (old new : Scene) →
    Type 0
ReceiverDoes times stored (Some a) old new =
    receiver_does.Does (receiver_does.timers_set times) stored (λ m files r. a) old new
ReceiverDoes times stored None old new = (stored ≡ Done) × (new ≡ old)

-- what a step leaves, by what it finds staged for its transaction and the published files
abbrev pub found : (OctetMap → FileMap → ReceiverState → Option receiver.ReceiverAfter) → Scene →
    Option receiver.ReceiverAfter
found step s = step (staged_for s.staged s.receiver.addressing.id) s.files s.receiver

-- if it found no memory for Metadata or file data
abbrev pub ReceiverKeeps : Content → (old new : Scene) → Type 0
ReceiverKeeps (FileData offset bytes) old new = receiver_does.Keeps old new
ReceiverKeeps (Metadata kind size source destination options) old new = new ≡ old
ReceiverKeeps _ old new = ⊥

-- It stays ready under its transaction, and nothing of others changes.
pub record StaysReady {S : Type 0} (inbox : Inbox S) (before now : ReceiverState) (old new : S)
    : Type 0 where
  pub addressing : now.addressing ≡ before.addressing
  pub ready : IsReady (inbox.staged new) now
  pub others : OthersKeep before.addressing.id (inbox.staged old) (inbox.staged new)

-- what taking its PDU does to a receiver: nothing if none is due
abbrev pub ReceiverTook : Times → Option Due → (before now : ReceiverState) →
    (old new : Effects) → ℕ → (out_before out_now : List ℕ) → Type 0
ReceiverTook times (Some d) before now old new n out out_now =
    receiver_does.DoesAlone times (receiver.takes d) before now old new
    × Gives (octets_of before.large before.addressing (Some (receiver_says before d)))
    (len_of before.large before.addressing (Some (receiver_says before d)))
    (Octets n) out out_now
ReceiverTook times None before now old new n out out_now =
    ((now ≡ before) × (new ≡ old)) × Gives [] 0 (Octets n) out out_now

-- what an ACK does to a receiver: if it acknowledges an EOF, it is not for it
abbrev pub ReceiverAcks : Times → (large : Bool) → Acknowledged → (before now : ReceiverState) →
    (old new : Effects) → Type 0
ReceiverAcks times large acknowledged.Finished before now old new =
    receiver_does.DoesAlone times (receiver_does.flagging large receiver.hears_ack) before now old
    new
ReceiverAcks times large acknowledged.Eof before now old new = (now ≡ before) × (new ≡ old)
