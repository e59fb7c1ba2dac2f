-- A station that resumes: what a journal would keep of the station that was killed is restored on a
-- new one.
use Rattle.std.specs.Prelude.{◌≡◌, ◌⊎◌, ◌≤◌, ◌<◌, ◌+◌, ℕ, true, List, [], ◌∷◌, ◌++◌, None, IsTrue, length}
use Rattle.std.specs.FinSet as set
use Rattle.link_stack.specs.Downward.{both_counted_from, first_down}
use Rattle.link_stack.specs.Upward.{first_up}
use Rattle.cfdp_header.specs.declared.value.TransactionId.{TransactionId}
use Rattle.cfdp_sender.specs.declared.phase.SenderPhase.{SenderPhase}
use Rattle.cfdp_sender.specs.declared.phase.SenderPhase.TheVariants.{Sending, Cancelling, Closed}
use Rattle.cfdp_entity.specs.declared.config.EntityConfig.{EntityConfig}
use Rattle.cfdp_entity.specs.Config.{IsConfig}
use Rattle.cfdp_entity.specs.Entity.{EntityState, first_entity, is_forgotten}
use Rattle.cfdp_entity.specs.Exchanging.{told_by}
use Rattle.cfdp_entity.specs.Restoring.{Kept, OfSender, OfReceiver, RestoresReceiver, RestoresSender, all_kept}
use Rattle.cfdp_entity.specs.Table.{ShowsIf}
use Rattle.cfdp_station.specs.declared.config.StationConfig.{StationConfig}
use Rattle.any_order.specs.Calls.{numbered_from}
use Rattle.any_order.specs.Kept.{EndKept}

-- ---- an entity
-- It may have forgotten more transactions, and is otherwise as it was.
pub record ForgetsMore (old new : EntityState) : Type 0 where
  pub same : new ≡ record old { forgotten = new.forgotten }
  pub more : (id : TransactionId) → is_forgotten old id ≡ true → is_forgotten new id ≡ true

-- It may have forgotten more transactions, but only such ones.
pub record ForgetsOnly (Those : TransactionId → Type 0) (old new : EntityState) : Type 0 where
  pub forgets : ForgetsMore old new
  pub only : (id : TransactionId) → is_forgotten new id ≡ true
      → (is_forgotten old id ≡ true) ⊎ Those id

-- A sender that sends goes on after the octets of its file that it had sent. A file that isn't sent
-- any more isn't read.
abbrev pub goes_on_after : SenderPhase → (sent : ℕ) → ℕ
goes_on_after Sending sent = sent
goes_on_after Cancelling sent = 0
goes_on_after Closed sent = 0

-- Of what a journal keeps, a record is restored: a sender goes on in its file, and a receiver holds
-- nothing of its file, which the sender sends again. A sender that is closed, and whose transaction
-- is forgotten, is left out: memory doesn't have its names any more.
abbrev pub RestoresKept : TransactionId → Kept → (old new : EntityState) → Type 0
RestoresKept id (OfSender committed sent) old new =
    (RestoresSender committed (goes_on_after committed.phase sent) old new
    × ShowsIf true old.table new.table)
    ⊎ ((committed.phase ≡ Closed) × ((new ≡ old) × (is_forgotten old id ≡ true)))
RestoresKept id (OfReceiver committed held) old new =
    RestoresReceiver committed set.empty old new

-- It is kept of a sender that is closed.
abbrev pub IsOfClosed : Kept → Type 0
IsOfClosed (OfSender committed sent) = committed.phase ≡ Closed
IsOfClosed (OfReceiver committed held) = ⊥

-- A transaction is one of these, and closed at its sender.
abbrev pub IsClosedIn : List (TransactionId × Kept) → TransactionId → Type 0
IsClosedIn [] id = ⊥
IsClosedIn (kept ∷ rest) id = ((id ≡ kept.0) × IsOfClosed kept.1) ⊎ IsClosedIn rest id

-- That is done with all of these, in their order.
abbrev pub RestoresAll : List (TransactionId × Kept) → (old new : EntityState) → Type 0
RestoresAll [] old new = new ≡ old
RestoresAll (kept ∷ rest) old new = (mid : EntityState)
    × (RestoresKept kept.0 kept.1 old mid × RestoresAll rest mid new)

-- An entity was killed, and comes back. A new one is set up so, has the same files, and numbers its
-- puts from a number on that no put had. It has forgotten all that was forgotten, and of the other
-- transactions only those that are closed at their sender. Then all records are restored on it, and
-- the list of indications goes on.
pub record ComesBackFrom (number : ℕ) (c : EntityConfig) (old new : EntityState) : Type 0 where
  pub valid : IsConfig (numbered_from number c)
  pub unused : old.next ≤ number
  pub begun : EntityState
  pub begins : ForgetsOnly (λ id. (is_forgotten old id ≡ true)
      ⊎ IsClosedIn (all_kept old.table) id)
      (first_entity old.table.sources old.table.files (numbered_from number c)) begun
  pub forgotten : (id : TransactionId) → is_forgotten old id ≡ true → is_forgotten begun id ≡ true
  pub mid : EntityState
  pub records : RestoresAll (all_kept old.table) begun mid
  pub stands : IsTrue mid.table.stands
  pub told : new ≡ told_by old mid

-- ---- a station
-- What is kept of a station that resumes: its entity comes back, and its link is new. Its frames
-- are counted from a number before which at least one is left out.
pub record ResumesKept (first number : ℕ) (c : StationConfig) (old new : EndKept) : Type 0 where
  pub entity : ComesBackFrom number c.entity old.station.entity.state new.station.entity.state
  pub down : new.station.down ≡ both_counted_from first (first_down c.sends c.capacity)
  pub up : new.station.up ≡ first_up c.receives
  pub directives : old.latest.first + length old.latest.directives < first
  pub file_data : old.latest.first + length old.latest.file_data < first
  pub same : new ≡ record {
    station = new.station;
    before = old.before ++ old.latest ∷ [];
    latest = record { first = first; directives = []; file_data = [] };
    told_before = old.told_before;
    last_directives = None;
    last_data = None;
  }
