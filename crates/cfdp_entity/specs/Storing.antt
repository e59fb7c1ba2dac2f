-- Which calls of the inbox a step of an entity makes, in which order: those of the receiver whose
-- step it is, and no other. `By` says that some calls lead from one state of the inbox to another.
-- If it is `Raises`, these states are counts of failures.
use Rattle.std.specs.Prelude.{ℕ, max, Bool, List, [], ◌∷◌, slice_get, Option, Some, None}
use Rattle.std.specs.FinMap as map
use Rattle.cfdp_header.specs.declared.value.TransactionId.{TransactionId}
use Rattle.cfdp_directives.specs.declared.pdu.addressing.Addressing.{Addressing}
use Rattle.cfdp_directives.specs.Pdu.Content.{Content, FileData, Metadata, Eof}
use Rattle.cfdp_store.specs.declared.stored.Stored.{Stored}
use Rattle.cfdp_store.specs.declared.stored.Stored.TheVariants.{Done, Refused}
use Rattle.cfdp_store.specs.Calls.{InboxCall}
use Rattle.cfdp_timers.specs.declared.kind.Kind.{Kind}
use Rattle.cfdp_timers.specs.Due.{AreDue}
use Rattle.cfdp_timers.specs.Order.{Timer}
use Rattle.cfdp_receiver.specs.State.{ReceiverState, opened_receiver}
use Rattle.cfdp_receiver.specs.Storing.{Settles, Stages, Begins, staged_pieces}
use Rattle.cfdp_entity.specs.declared.request.Request.{Request}
use Rattle.cfdp_entity.specs.declared.request.Request.TheVariants as request
use Rattle.cfdp_entity.specs.Seen.{Seen, Sends, Receives}
use Rattle.cfdp_entity.specs.Steps.{After, hears, expires, calls}
use Rattle.cfdp_entity.specs.Opening.{closing, opens}
use Rattle.cfdp_entity.specs.Table.{Entry, TableState, place_of, expired, at_time}

module _ {A : Type 0} (By : List InboxCall → A → A → Type 0) where
  -- ---- one step of a receiver
  -- It heard a PDU. Only if that is Metadata, file data or an EOF, it asks something of the inbox.
  abbrev pub AsksHeard : (large : Bool) → Content → Stored → (r s : ReceiverState) →
      (old new : A) → Type 0
  AsksHeard large (Metadata kind size source destination options) stored r s old new =
      Settles By stored r s old new
  AsksHeard large (FileData offset bytes) stored r s old new =
      Stages By stored (staged_pieces large offset bytes r) r s old new
  AsksHeard large (Eof condition checksum size tlvs) stored r s old new =
      Settles By stored r s old new
  AsksHeard large _ stored r s old new = By [] old new

  -- Its user asked something of it. Only a cancel asks something of the inbox.
  abbrev pub AsksCalled : Request → (r s : ReceiverState) → (old new : A) → Type 0
  AsksCalled request.Cancel r s old new = Settles By Done r s old new
  AsksCalled _ r s old new = By [] old new

  -- ---- one step of a record, by what it asks if it is a receiver's
  -- A sender asks nothing of the inbox.
  abbrev pub AsksAs : (Asks : (r s : ReceiverState) → (old new : A) → Type 0) →
      (before after : Seen) → (old new : A) → Type 0
  AsksAs Asks (Sends x) after old new = By [] old new
  AsksAs Asks (Receives r m) (Receives s n) old new = Asks r s old new
  AsksAs Asks (Receives r m) (Sends x) old new = ⊥

  -- the record at an index made this step, if one is there
  abbrev pub AsksOf : (Asks : (r s : ReceiverState) → (old new : A) → Type 0) → (Entry → After) →
      Option Entry → (old new : A) → Type 0
  AsksOf Asks f (Some e) old new = AsksAs Asks e.1 (f e).seen old new
  AsksOf Asks f None old new = By [] old new

  -- the record at an index heard a PDU
  abbrev pub AsksToHear : Stored → ℕ → (large : Bool) → Content → TableState →
      (old new : A) → Type 0
  AsksToHear stored place large v st old new = AsksOf (AsksHeard large v stored)
      (λ e. hears stored st.policy.times st.files large v e.1) (slice_get st.records place)
      old new

  -- its user asked something of it
  abbrev pub AsksToRequest : Request → ℕ → TableState → (old new : A) → Type 0
  AsksToRequest c place st old new = AsksOf (AsksCalled c) (λ e. calls st.policy.times st.files c e.1)
      (slice_get st.records place) old new

  -- its timer expired
  abbrev pub AsksToExpire : Kind → ℕ → TableState → (old new : A) → Type 0
  AsksToExpire k place st old new = AsksOf (Settles By Done)
      (λ e. expires st.policy st.files k e.1) (slice_get st.records place) old new

  -- ---- the same by the index of a transaction's record, if it has one
  abbrev pub AsksWhere : (Asks : ℕ → (old new : A) → Type 0) → Option ℕ → (old new : A) → Type 0
  AsksWhere Asks (Some place) old new = Asks place old new
  AsksWhere Asks None old new = By [] old new

  abbrev pub AsksByRequest : Request → TransactionId → TableState → (old new : A) → Type 0
  AsksByRequest c id st old new =
      AsksWhere (λ place. AsksToRequest c place st) (place_of id st.records) old new

  abbrev pub AsksByTimer : Timer → TableState → (old new : A) → Type 0
  AsksByTimer t st old new =
      AsksWhere (λ place. AsksToExpire t.1 place st) (place_of t.0 st.records) old new

  -- ---- a new record
  -- The inbox began the transaction, and then the record heard the PDU; or it refused.
  abbrev pub AsksToBegin : (begun stored : Stored) → (large : Bool) → Content → Addressing →
      (opened : Seen) → (old new : A) → Type 0
  AsksToBegin Done stored large v a opened old new = (mid : A) × Begins By Done a.id old mid
      × AsksAs (AsksHeard large v stored) (Receives (opened_receiver a) map.empty) opened mid new
  AsksToBegin Refused stored large v a opened old new = Begins By Refused a.id old new

  -- If an EOF has an error, it asks nothing of the inbox.
  abbrev pub AsksFirst : (closes : Option ℕ) → (begun stored : Stored) → (large : Bool) →
      Content → Addressing → (opened : Seen) → (old new : A) → Type 0
  AsksFirst (Some condition) begun stored large v a opened old new = By [] old new
  AsksFirst None begun stored large v a opened old new =
      AsksToBegin begun stored large v a opened old new

  -- a PDU opened a record
  abbrev pub AsksToOpen : (begun stored : Stored) → Addressing → (large : Bool) → Content →
      TableState → (old new : A) → Type 0
  AsksToOpen begun stored a large v st old new = AsksFirst (closing v) begun stored large v a
      (opens begun stored st.policy.times st.files large v a).seen old new

  -- ---- timers that fired, one after another: each step finds what the earlier ones left
  unfoldable pub AsksToFire : List Timer → TableState → (old new : A) → Type 0
  AsksToFire [] st old new = By [] old new
  AsksToFire (t ∷ timers) st old new = (mid : A)
      × AsksByTimer t st old mid × AsksToFire timers (expired t st) mid new

  -- The time was given: the timers that are due fired in their order, each once.
  pub record AsksToTick (now : ℕ) (st : TableState) (old new : A) : Type 0 where
    pub fired : List Timer
    pub are : AreDue st.armed (max st.now now) fired
    pub asks : AsksToFire fired (at_time now st) old new
