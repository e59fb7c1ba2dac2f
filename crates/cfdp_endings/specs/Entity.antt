-- An entity that hears nothing: what is open in its table, and for how long.
use Rattle.std.specs.Prelude.{◌≡◌, ◌⊎◌, ℕ, zero, suc, ◌+◌, ◌*◌, max, not, Bool, true, false, List, [], ◌∷◌, slice_get, Some, if◌then◌else◌}
use Rattle.std.specs.List.{IsDistinct}
use Rattle.std.specs.Map.{keys_of}
use Rattle.cfdp_header.specs.Ids.{same_id}
use Rattle.cfdp_directives.specs.declared.user.limits.Limits.{Limits}
use Rattle.cfdp_directives.specs.declared.user.policy.Policy.{Policy}
use Rattle.cfdp_store.specs.declared.stored.Stored.{Stored}
use Rattle.cfdp_timers.specs.declared.kind.Kind.{Kind}
use Rattle.cfdp_timers.specs.Due.{is_due}
use Rattle.cfdp_timers.specs.Order.{Timer}
use Rattle.cfdp_sender.specs.InFile.{IsInFile}
use Rattle.cfdp_receiver.specs.Sound.{owes_finished}
use Rattle.cfdp_entity.specs.Config.{IsConfig}
use Rattle.cfdp_entity.specs.Entity.{EntityState, with_table}
use Rattle.cfdp_entity.specs.Forgetting.{over_in}
use Rattle.cfdp_entity.specs.Polling.{Rests, served, turn}
use Rattle.cfdp_entity.specs.Seen.{Seen, Sends, Receives}
use Rattle.cfdp_entity.specs.Table.{Entry, TableState, Ticks, has_due}
use Rattle.cfdp_entity.specs.Timed.{AreTimed, is_armed}
use Rattle.cfdp_endings.specs.Limits.{tries_left}
use Rattle.cfdp_endings.specs.Sender.{sender_open, sender_left, owes_eof, SenderGivesUp, SenderEnds}
use Rattle.cfdp_endings.specs.Receiver.{receiver_open, receiver_left, ReceiverGivesUp, ReceiverEnds}

-- ---- a record
-- `true` if it is open: neither closed nor suspended
abbrev pub seen_open : Seen → Bool
seen_open (Sends x) = sender_open x
seen_open (Receives r m) = receiver_open r

-- how many of its timers may still expire until it is closed or suspended
abbrev pub seen_left : Limits → Seen → ℕ
seen_left limits (Sends x) = sender_left limits x
seen_left limits (Receives r m) = receiver_left limits r

-- What it must get an answer to, an EOF that cancels or a Finished, is due or was sent; and what a
-- sender has due is in its file.
abbrev pub IsOwing : Seen → Type 0
IsOwing (Sends x) = (owes_eof x ≡ true) × IsInFile x
IsOwing (Receives r m) = owes_finished r ≡ true

-- ---- records
-- of all together
abbrev pub records_left : Limits → List Entry → ℕ
records_left limits [] = 0
records_left limits (e ∷ es) = seen_left limits e.1 + records_left limits es

abbrev pub open_count : List Entry → ℕ
open_count [] = 0
open_count (e ∷ es) = (if seen_open e.1 then 1 else 0) + open_count es

-- the most that one record may have left: a sender the tries of two EOFs, that of its file and that
-- which cancels; a receiver those of a NAK and of a Finished
abbrev pub most_left : Limits → ℕ
most_left limits = max (2 * tries_left 0 limits.eof)
    (tries_left 0 limits.nak + tries_left 0 limits.finished)

-- None of them is open.
abbrev pub NoneOpen : List Entry → Type 0
NoneOpen records = (place : ℕ) (e : Entry) → slice_get records place ≡ Some e
    → seen_open e.1 ≡ false

abbrev pub AllOwe : List Entry → Type 0
AllOwe [] = Unit {0}
AllOwe (e ∷ es) = IsOwing e.1 × AllOwe es

-- ---- a table
-- Each transaction must have one record, the timers that are armed are those that records wait for,
-- and if a record waits for an answer to something, that is due or was sent.
pub record IsTimely (st : TableState) : Type 0 where
  pub distinct : IsDistinct same_id (keys_of st.records)
  pub timed : AreTimed st
  pub owing : AllOwe st.records

-- An entity whose configuration must be valid, and whose table is so and does as it is configured.
pub record IsLively (e : EntityState) : Type 0 where
  pub config : IsConfig e.config
  pub policy : e.table.policy ≡ e.config.policy
  pub table : IsTimely e.table

-- A PDU of a record is due, or a timer of its transaction is armed.
abbrev pub EntryGoesOn : TableState → Entry → Type 0
EntryGoesOn st e = (has_due e ≡ true) ⊎ ((k : Kind) × (is_armed e.0 k st ≡ true))

-- Neither limits nor inactivity may be ignored.
pub record GivesUp (policy : Policy) : Type 0 where
  pub sends : SenderGivesUp policy
  pub receives : ReceiverGivesUp policy

-- ---- an entity alone
-- It was polled, once for each of these answers of its outbox.
abbrev pub AreServed : List Stored → (old new : EntityState) → Type 0
AreServed [] old new = new ≡ old
AreServed (stored ∷ more) old new = AreServed more (served stored (turn old) old) new

-- It was given a time by which some timer's deadline must have come, and then polled until nothing
-- was due. It heard nothing, and its user asked nothing of it.
pub record IsRound (old new : EntityState) : Type 0 where
  pub now : ℕ
  pub timer : Timer
  pub due : is_due old.table.armed (max old.table.now now) timer ≡ true
  pub told : EntityState
  pub ticks : Ticks now old.table told.table
  pub only : told ≡ with_table old told.table
  pub answers : List Stored
  pub polls : AreServed answers told new
  pub rests : turn new ≡ Rests

-- So many such rounds led from one state to another.
abbrev pub AreRounds : ℕ → (old new : EntityState) → Type 0
AreRounds zero old new = new ≡ old
AreRounds (suc n) old new = (mid : EntityState) × IsRound old mid × AreRounds n mid new

-- ---- if all is over
-- None of these records is suspended.
abbrev pub is_awake : Seen → Bool
is_awake (Sends x) = not x.suspended
is_awake (Receives r m) = not r.suspended

abbrev pub AllAwake : List Entry → Type 0
AllAwake [] = Unit {0}
AllAwake (e ∷ es) = (is_awake e.1 ≡ true) × AllAwake es

-- Each fault of a limit, and of inactivity, must end its transaction.
pub record Ends (policy : Policy) : Type 0 where
  pub sends : SenderEnds policy
  pub receives : ReceiverEnds policy

-- Each of these records is closed, and may be discarded.
abbrev pub AllOver : List Entry → Type 0
AllOver records = (place : ℕ) (e : Entry) → slice_get records place ≡ Some e
    → over_in (slice_get records place) ≡ Some e.0
