-- Rounds in which nothing of a transaction is lost, whatever is lost of others.
use Rattle.std.specs.Prelude.{◌≡◌, ◌≢◌, ℕ, true, false, List, [], ◌∷◌, Option, Some, None}
use Rattle.cfdp_header.specs.declared.value.TransactionId.{TransactionId}
use Rattle.cfdp_timers.specs.declared.kind.Kind.{Kind}
use Rattle.cfdp_timers.specs.declared.kind.Kind.TheVariants.{Inactivity}
use Rattle.cfdp_timers.specs.Due.{is_due}
use Rattle.cfdp_sender.specs.Due.{sender_due}
use Rattle.cfdp_receiver.specs.Due.{receiver_due}
use Rattle.cfdp_entity.specs.Seen.{Seen, Sends, Receives}
use Rattle.cfdp_entity.specs.Table.{record_of}
use Rattle.station_pair.specs.declared.side.Side.{Side}
use Rattle.link_sim.specs.declared.event.Event.{Event}
use Rattle.link_sim.specs.declared.event.Event.TheVariants as event
use Rattle.link_sim.specs.declared.event.Applied.TheVariants as did
use Rattle.link_sim.specs.Between.{Pdu, AreSpelled, of_id}
use Rattle.link_sim.specs.Recovering.{armed_at}
use Rattle.link_sim.specs.Settling.{KeepsAll, all_shortages}
use Rattle.link_sim.specs.World.State.{WorldState, arriving_from, entity_at}
use Rattle.link_sim.specs.World.Steps.{Steps}
use Rattle.outages.specs.Outage.{Happening, IsOfOutage}
use Rattle.outages.specs.Tries.{IsCalm, time_told}

-- A frame was lost, and no PDU of this transaction with it: those that will arrive are the same as
-- before, from either station.
abbrev pub SparesIt : TransactionId → (old new : WorldState) → Type 0
SparesIt id old new = (s : Side) (before after : List Pdu)
    → AreSpelled (arriving_from s old) before → AreSpelled (arriving_from s new) after
    → of_id id after ≡ of_id id before

-- No timer of the transaction expires at this station when it is given this time.
abbrev pub IsUndue : TransactionId → Side → ℕ → WorldState → Type 0
IsUndue id s now w = (k : Kind) → is_due (armed_at s w) (time_told s now w) (id, k) ≡ false

-- The event is one of an outage, but no timer of the transaction expires by it, and a loss spares
-- the transaction.
abbrev pub IsSparing : TransactionId → Event → (old new : WorldState) → Type 0
IsSparing id (event.Strike s l) old new = SparesIt id old new
IsSparing id (event.Damage s l octets) old new = SparesIt id old new
IsSparing id (event.Tick s now) old new = IsUndue id s now old
IsSparing id e old new = IsOfOutage id e

-- Such events led from the old world to the new one, and nothing was short in any of them.
abbrev pub AreSparing : TransactionId → List Happening → (old new : WorldState) → Type 0
AreSparing id [] old new = new ≡ old
AreSparing id (h ∷ hs) old new = IsSparing id h.event old h.after
    × Steps h.event h.did old h.after
    × KeepsAll (all_shortages old) (all_shortages h.after) × AreSparing id hs h.after new

-- Nothing is due of a record.
abbrev pub NothingDueIn : Option Seen → Type 0
NothingDueIn (Some (Sends x)) = sender_due x ≡ None
NothingDueIn (Some (Receives r m)) = receiver_due r ≡ None
NothingDueIn None = Unit {0}

-- Nothing of the transaction is due at either station, and no PDU of it is to arrive at either.
pub record IsQuiet (id : TransactionId) (w : WorldState) : Type 0 where
  pub due : (s : Side) → NothingDueIn (record_of id (entity_at s w).table.records)
  pub on_way : (s : Side) (pdus : List Pdu) → AreSpelled (arriving_from s w) pdus
      → of_id id pdus ≡ []

-- The transaction was quiet, and once in these events a timer of it, other than that of Inactivity,
-- expired at a station. At all others no timer of it expired, and nothing of it was lost, whatever
-- else was, until it was quiet again.
pub record GetsThrough (id : TransactionId) (old new : WorldState) : Type 0 where
  pub rests : IsQuiet id old
  pub before : List Happening
  pub held : WorldState
  pub spare_before : AreSparing id before old held
  pub side : Side
  pub now : ℕ
  pub ticked : WorldState
  pub ticks : Steps (event.Tick side now) did.Applied held ticked
  pub calm : IsCalm id held (event.Tick side now)
  pub short_of_nothing : KeepsAll (all_shortages held) (all_shortages ticked)
  pub kind : Kind
  pub answerable : kind ≢ Inactivity
  pub expires : is_due (armed_at side held) (time_told side now held) (id, kind) ≡ true
  pub rest : List Happening
  pub spare : AreSparing id rest ticked new
  pub quiet : IsQuiet id new
