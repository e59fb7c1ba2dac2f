-- Records that are restored after a restart, from what a journal keeps of them.
use Rattle.std.specs.Prelude.{◌≡◌, ◌≢◌, ◌⊎◌, ℕ, ◌<◌, ◌≤◌, ◌==◌, ◌&&◌, ◌++◌, nat_lt, not, Bool, true, false, List, [], ◌∷◌, length, map, take, Option, Some, None, Result, Ok, Err, IsSome, IsTrue}
use Rattle.std.specs.FinMap as finmap
use Rattle.std.specs.FinSet as set
use Rattle.cfdp_header.specs.declared.value.TransactionId.{TransactionId}
use Rattle.cfdp_header.specs.Files.{FileMap}
use Rattle.cfdp_directives.specs.declared.pdu.addressing.Addressing.{Addressing}
use Rattle.cfdp_directives.specs.declared.pdu.sums.Checksums.{Checksums}
use Rattle.cfdp_directives.specs.declared.user.limits.Times.{Times}
use Rattle.cfdp_directives.specs.Pdu.Codes.{size_limit}
use Rattle.cfdp_store.specs.Files.{octets_in}
use Rattle.cfdp_store.specs.Staged.{OctetMap, staged_for}
use Rattle.cfdp_timers.specs.Waits.{waited}
use Rattle.cfdp_extents.specs.Offsets.{Offsets}
use Rattle.cfdp_extents.specs.Forgotten.{ids_in}
use Rattle.cfdp_receiver.specs.declared.restoring.CommittedReceiver.{CommittedReceiver}
use Rattle.cfdp_receiver.specs.declared.state.ReceiverPhase.TheVariants.{Receiving}
use Rattle.cfdp_receiver.specs.Back.{received_from}
use Rattle.cfdp_receiver.specs.Back as receiver_back
use Rattle.cfdp_receiver.specs.Does as receiver_does
use Rattle.cfdp_receiver.specs.State.{ReceiverState, kind_told}
use Rattle.cfdp_receiver.specs.Steps as receiver
use Rattle.cfdp_receiver.specs.Summed.{IsAdopted}
use Rattle.cfdp_sender.specs.declared.restoring.CommittedSender.{CommittedSender}
use Rattle.cfdp_sender.specs.Back.{sent_from}
use Rattle.cfdp_sender.specs.Back as sender_back
use Rattle.cfdp_sender.specs.Does as sender_does
use Rattle.cfdp_sender.specs.Inputs.{front_sums}
use Rattle.cfdp_sender.specs.State.{SenderState}
use Rattle.cfdp_sender.specs.Steps as sender
use Rattle.cfdp_entity.specs.declared.restoring.RestoreError.{RestoreError}
use Rattle.cfdp_entity.specs.declared.restoring.RestoreError.TheVariants.{NotOurs, Invalid, Taken, TableFull, SourceFault, NoSuchFile, OtherSize, InboxFault, ShortPart, NoMemory}
use Rattle.cfdp_entity.specs.Desk.{DeskState}
use Rattle.cfdp_entity.specs.Does.{Opens}
use Rattle.cfdp_entity.specs.Entity.{EntityState, entity_lent, is_forgotten, with_table}
use Rattle.cfdp_entity.specs.Roomy.{MayAdd}
use Rattle.cfdp_entity.specs.declared.record.Record.{Record}
use Rattle.cfdp_entity.specs.Seen.{Seen, Sends, Receives, octets_seen, seen}
use Rattle.cfdp_entity.specs.Steps.{After, by_receiver, by_sender}
use Rattle.cfdp_entity.specs.Table.{Entry, TableState, place_of, most_records}

-- ---- what a journal keeps of records
-- of a sender, and how much of its file was sent; or of a receiver, and what it holds of its file
pub data Kept : Type 0 where
  OfSender : (committed : CommittedSender) (sent : ℕ) → Kept
  OfReceiver : (committed : CommittedReceiver) (held : Offsets) → Kept

abbrev pub kept_of : Seen → Kept
kept_of (Sends x) = OfSender (sender_back.committed_of x) x.sent
kept_of (Receives r m) = OfReceiver (receiver_back.committed_of r) r.held

abbrev pub entry_kept : Entry → TransactionId × Kept
entry_kept e = (e.0, kept_of e.1)

-- of all records, in order of opening
abbrev pub all_kept : TableState → List (TransactionId × Kept)
all_kept t = map entry_kept t.records

-- of a record itself: what is staged for it doesn't count
abbrev pub record_kept : TransactionId × Record → TransactionId × Kept
record_kept e = (e.0, kept_of (seen None e.1))

-- ---- a sender
-- what is restored of a sender: the machine, and its timers, each of which runs from now on
abbrev pub restores_sender : Times → FileMap → ℕ → Checksums → CommittedSender → After
restores_sender times files sent sums c =
    by_sender times files (sender.quiet (sent_from sent sums c))

-- a record more, after all others: of this sender, with its timers set
abbrev pub with_sender : TransactionId → SenderState → TableState → TableState
with_sender id x st = record st {
  records = st.records ++ (id, Sends x) ∷ [];
  armed = waited st.now id (sender_does.waits_of st.policy.times None x) st.armed;
}

abbrev pub sender_restored : ℕ → Checksums → CommittedSender → TableState → TableState
sender_restored sent sums c st = with_sender c.transfer.addressing.id (sent_from sent sums c) st

-- `true` if an entity sends a file in this transaction: to its peer, under a number that was used
abbrev pub is_own_put : Addressing → EntityState → Bool
is_own_put a e =
    (a.id.source == e.config.entity) && nat_lt a.id.number e.next
    && (a.destination == e.config.peer)

-- Nothing but the outbox and memory can refuse to restore this sender.
pub record MayRestoreSender (c : CommittedSender) (sent : ℕ) (e : EntityState) : Type 0 where
  pub own : is_own_put c.transfer.addressing e ≡ true
  pub committed : sender_back.IsCommitted c
  pub within : sent ≤ c.transfer.size
  pub unforgotten : is_forgotten e c.transfer.addressing.id ≡ false
  pub may_add : MayAdd c.transfer.addressing.id e.table

-- If a sender isn't restored for this cause, the cause holds.
abbrev pub SenderCause : RestoreError → CommittedSender → ℕ → EntityState → Type 0
SenderCause NotOurs c sent e = is_own_put c.transfer.addressing e ≡ false
SenderCause Invalid c sent e = sender_back.IsCommitted c → sent ≤ c.transfer.size → ⊥
SenderCause Taken c sent e =
    (is_forgotten e c.transfer.addressing.id ≡ true)
    ⊎ IsSome (place_of c.transfer.addressing.id e.table.records)
SenderCause TableFull c sent e = most_records ≤ length e.table.records
SenderCause SourceFault c sent e = Unit {0}
SenderCause NoSuchFile c sent e = finmap.get e.table.sources c.transfer.source ≡ None
SenderCause OtherSize c sent e =
    length (octets_in e.table.sources c.transfer.source) ≢ c.transfer.size
SenderCause InboxFault c sent e = ⊥
SenderCause ShortPart c sent e = ⊥
SenderCause NoMemory c sent e = Unit {0}

-- `true` if the outbox failed
abbrev pub is_fault : RestoreError → Bool
is_fault SourceFault = true
is_fault _ = false

-- `true` if the outbox answered all that was asked of it
abbrev pub was_read : {X : Type 0} → Result X RestoreError → Bool
was_read (Ok x) = true
was_read (Err by) = not (is_fault by)

-- A sender was restored after this number of octets of its file. If the files of the outbox stand,
-- its sums are those of the front of its file. Nothing else changed, except what reading the file
-- showed of the outbox.
pub record RestoresSender (c : CommittedSender) (sent : ℕ) (old new : EntityState) : Type 0 where
  pub may : MayRestoreSender c sent old
  pub sums : Checksums
  pub front : IsTrue new.table.stands → sums ≡ front_sums c.transfer.checksum_kind
      (take sent (octets_in new.table.sources c.transfer.source))
  pub restored : new ≡ with_table (entity_lent new old)
      (sender_restored sent sums c (entity_lent new old).table)

-- ---- a receiver
-- what is restored of a receiver, with what is staged for it: the machine, and its timers, each of
-- which runs from now on
abbrev pub restores_receiver : Times → FileMap → OctetMap → Offsets → Checksums →
    CommittedReceiver → After
restores_receiver times files m held sums c =
    by_receiver times (receiver.leaving m files (received_from held sums c))

-- a record more, after all others: of this receiver, with its timers set
abbrev pub with_receiver : TransactionId → ReceiverState → OctetMap → TableState → TableState
with_receiver id r m st = record st {
  records = st.records ++ (id, Receives r (octets_seen r m)) ∷ [];
  armed = waited st.now id (receiver_does.waits_of st.policy.times None r) st.armed;
}

abbrev pub receiver_restored : OctetMap → Offsets → Checksums → CommittedReceiver → TableState →
    TableState
receiver_restored m held sums c st = with_receiver c.addressing.id (received_from held sums c) m st

-- `true` if an entity receives a file in this transaction: from its peer
abbrev pub is_peers_put : Addressing → EntityState → Bool
is_peers_put a e = (a.id.source == e.config.peer) && (a.destination == e.config.entity)

-- Each offset that is held is below the greatest size, by the large file flag.
abbrev pub AreHeldBelow : Offsets → CommittedReceiver → Type 0
AreHeldBelow held c = (n : ℕ) → set.contains held n ≡ true → n < size_limit c.large

-- Nothing but the inbox and memory can refuse to restore this receiver.
pub record MayRestoreReceiver (c : CommittedReceiver) (held : Offsets) (e : EntityState) : Type 0
  where
    pub own : is_peers_put c.addressing e ≡ true
    pub committed : receiver_back.IsCommitted c
    pub within : AreHeldBelow held c
    pub unforgotten : is_forgotten e c.addressing.id ≡ false
    pub may_add : MayAdd c.addressing.id e.table

-- If a receiver isn't restored for this cause, the cause holds. The inbox is asked only for a
-- receiver that receives.
abbrev pub ReceiverCause : RestoreError → CommittedReceiver → Offsets → EntityState → Type 0
ReceiverCause NotOurs c held e = is_peers_put c.addressing e ≡ false
ReceiverCause Invalid c held e = receiver_back.IsCommitted c → AreHeldBelow held c → ⊥
ReceiverCause Taken c held e =
    (is_forgotten e c.addressing.id ≡ true) ⊎ IsSome (place_of c.addressing.id e.table.records)
ReceiverCause TableFull c held e = most_records ≤ length e.table.records
ReceiverCause InboxFault c held e = c.phase ≡ Receiving
ReceiverCause ShortPart c held e = c.phase ≡ Receiving
ReceiverCause NoMemory c held e = Unit {0}
ReceiverCause _ c held e = ⊥

-- `true` if the inbox failed
abbrev pub is_inbox_fault : RestoreError → Bool
is_inbox_fault InboxFault = true
is_inbox_fault _ = false

-- `true` if the inbox answered all that was asked of it
abbrev pub was_shown : {X : Type 0} → Result X RestoreError → Bool
was_shown (Ok x) = true
was_shown (Err by) = not (is_inbox_fault by)

-- While it receives, these are the sums of what is held, and that is staged.
abbrev pub HoldsAdopted : CommittedReceiver → Offsets → Option OctetMap → Checksums → Type 0
HoldsAdopted c held staged sums =
    c.phase ≡ Receiving → IsAdopted (kind_told c.metadata) held staged sums

-- The record of a restored receiver was opened.
pub record OpensReceiver (c : CommittedReceiver) (held : Offsets) (now : Record)
    (old new : DeskState) : Type 0 where
  pub sums : Checksums
  pub adopted : HoldsAdopted c held (new.staged c.addressing.id) sums
  pub opens : Opens c.addressing.id (restores_receiver old.policy.times old.files
      (staged_for new.staged c.addressing.id) held sums c) now old new

-- a desk on which as many calls of the inbox failed as on another one
abbrev pub counted_as : (now old : DeskState) → DeskState
counted_as now old = record now { inbox_failures = old.inbox_failures }

-- A table has the record of a restored receiver too. While it receives, what it holds is staged,
-- and its sums are those of the octets that are staged.
pub record AddsReceiver (c : CommittedReceiver) (held : Offsets) (old new : TableState) : Type 0
  where
    pub sums : Checksums
    pub octets : OctetMap
    pub adopted : HoldsAdopted c held (Some octets) sums
    pub added : new ≡ receiver_restored octets held sums c old

-- A receiver was restored with what it held of its file. Nothing else changed.
pub record RestoresReceiver (c : CommittedReceiver) (held : Offsets) (old new : EntityState)
    : Type 0 where
  pub may : MayRestoreReceiver c held old
  pub table : AddsReceiver c held old.table new.table
  pub rest : new ≡ with_table old new.table

-- ---- what is forgotten
-- an entity that has forgotten these transactions of a source too
abbrev pub with_forgotten : (source start end : ℕ) → EntityState → EntityState
with_forgotten source start end e =
    record e { forgotten = set.union e.forgotten (ids_in source start end) }

-- If transactions aren't forgotten for this cause, the cause holds.
abbrev pub ForgottenCause : RestoreError → (source end : ℕ) → EntityState → Type 0
ForgottenCause NotOurs source end e = (source ≡ e.config.entity) × (e.next < end)
ForgottenCause Taken source end e = 1 ≤ length e.table.records
ForgottenCause NoMemory source end e = Unit {0}
ForgottenCause _ source end e = ⊥
