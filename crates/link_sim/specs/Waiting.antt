-- Which transactions a recovery brings to their end: those that wait below their limits.
use Rattle.std.specs.Prelude.{◌≡◌, ◌≢◌, ◌⊎◌, ◌<◌, ◌==◌, ◌&&◌, not, ℕ, Bool, true, false, List, Option, Some, None, Contains}
use Rattle.std.specs.List.{list_any}
use Rattle.cfdp_header.specs.declared.value.Header.{Header}
use Rattle.cfdp_header.specs.declared.value.TransactionId.{TransactionId}
use Rattle.cfdp_header.specs.Ids.{same_id}
use Rattle.cfdp_directives.specs.declared.user.handler.Handler.TheVariants.{Ignore}
use Rattle.cfdp_directives.specs.declared.user.indication.Indication.{Indication}
use Rattle.cfdp_directives.specs.declared.user.indication.Indication.TheVariants as indication
use Rattle.cfdp_directives.specs.declared.user.limits.Limits.{Limits}
use Rattle.cfdp_directives.specs.declared.user.policy.Policy.{Policy}
use Rattle.cfdp_directives.specs.Pdu.Codes.{no_error, inactivity}
use Rattle.cfdp_directives.specs.Pdu.Content.{Content}
use Rattle.cfdp_directives.specs.Pdu.Grammar.{SpellsPdu}
use Rattle.cfdp_sender.specs.declared.phase.SenderPhase.{SenderPhase}
use Rattle.cfdp_sender.specs.declared.phase.SenderPhase.TheVariants as sending
use Rattle.cfdp_receiver.specs.declared.state.ReceiverPhase.{ReceiverPhase}
use Rattle.cfdp_receiver.specs.declared.state.ReceiverPhase.TheVariants as receiving
use Rattle.cfdp_entity.specs.Seen.{Seen, Sends, Receives}
use Rattle.cfdp_entity.specs.Table.{record_of}
use Rattle.link_sim.specs.Clean.{IsCompleteAt}
use Rattle.link_sim.specs.Observed.{seen}
use Rattle.station_pair.specs.Stations.{other}
use Rattle.link_sim.specs.Theorem.{side_of}
use Rattle.link_sim.specs.World.State.{WorldState, entity_at, on_way_from}
use Rattle.link_sim.specs.declared.event.AcceptedPut.{AcceptedPut}
use Rattle.station_pair.specs.declared.side.Side.{Side}

-- what a station does if an answer doesn't come
abbrev pub policy_at : Side → WorldState → Policy
policy_at s w = (entity_at s w).config.policy

-- ---- what was indicated of a transaction
-- An end that isn't good, or what may lead to one: a fault other than inactivity, which may be
-- ignored, an error at the end, or that the transaction was abandoned.
abbrev pub spoils : TransactionId → Indication → Bool
spoils id (indication.Fault of condition) = same_id id of && not (condition == inactivity)
spoils id (indication.Abandoned of condition) = same_id id of
spoils id (indication.Finished of condition delivery status) =
    same_id id of && not (condition == no_error)
spoils id _ = false

-- whether one of the indications says this
abbrev pub one_tells : (Indication → Bool) → List Indication → Bool
one_tells says told = list_any says told

-- ---- a record
-- A record that sends isn't cancelled.
abbrev pub IsUncancelled : Option Seen → Type 0
IsUncancelled (Some (Sends x)) = x.phase ≢ sending.Cancelling
IsUncancelled _ = Unit {0}

abbrev pub is_open_sender : SenderPhase → Bool
is_open_sender sending.Sending = true
is_open_sender sending.Cancelling = true
is_open_sender sending.Closed = false

abbrev pub is_open_receiver : ReceiverPhase → Bool
is_open_receiver receiving.Receiving = true
is_open_receiver receiving.Finishing = true
is_open_receiver receiving.Closed = false

-- whether there is a record that isn't closed
abbrev pub is_open : Option Seen → Bool
is_open (Some (Sends x)) = is_open_sender x.phase
is_open (Some (Receives r m)) = is_open_receiver r.phase
is_open None = false

abbrev pub is_suspended : Seen → Bool
is_suspended (Sends x) = x.suspended
is_suspended (Receives r m) = r.suspended

-- It sent EOF again, or NAKs or Finished, less often than it may.
abbrev pub IsBelowLimits : Limits → Seen → Type 0
IsBelowLimits limits (Sends x) = x.count < limits.eof
IsBelowLimits limits (Receives r m) =
    (r.nak_count < limits.nak) × (r.finished_count < limits.finished)

-- A record is neither cancelled nor suspended, and if it is open it is below its limits.
pub record IsWaitingRecord (limits : Limits) (s : Seen) : Type 0 where
  pub uncancelled : IsUncancelled (Some s)
  pub awake : is_suspended s ≡ false
  pub below : is_open (Some s) ≡ true → IsBelowLimits limits s

abbrev pub IsWaitingIn : Limits → Option Seen → Type 0
IsWaitingIn limits (Some s) = IsWaitingRecord limits s
IsWaitingIn limits None = Unit {0}

-- ---- a transaction
-- At a station: no fault of it was indicated except for inactivity, no abandonment, no end with an
-- error; and its record, if there is one, waits.
pub record IsWaitingAt (id : TransactionId) (s : Side) (w : WorldState) : Type 0 where
  pub told : one_tells (spoils id) (entity_at s w).table.told ≡ false
  pub record_waits : IsWaitingIn (policy_at s w).limits (record_of id (entity_at s w).table.records)

-- It has a record that isn't closed.
pub record IsOpen (id : TransactionId) (w : WorldState) : Type 0 where
  pub side : Side
  pub still_open : is_open (record_of id (entity_at side w).table.records) ≡ true

pub record IsWaiting (id : TransactionId) (w : WorldState) : Type 0 where
  pub unfinished : IsOpen id w
  pub all : (s : Side) → IsWaitingAt id s w

-- A PDU of it, or part of one, is on its way to a station that has no record of it.
pub record IsComing (id : TransactionId) (w : WorldState) : Type 0 where
  pub to : Side
  pub text : List ℕ
  pub among : Contains (on_way_from (other to) w) text
  pub header : Header
  pub content : Content
  pub spells : SpellsPdu header content text
  pub of : header.id ≡ id
  pub none : record_of id (entity_at to w).table.records ≡ None

-- ---- a world
-- There is still something to come of it.
abbrev pub IsUnfinished : TransactionId → WorldState → Type 0
IsUnfinished id w = IsOpen id w ⊎ IsComing id w

abbrev pub AllWait : WorldState → Type 0
AllWait w = (id : TransactionId) → IsUnfinished id w → IsWaiting id w

-- Neither station does anything if nothing is heard for too long, except to say so.
abbrev pub IgnoreInactivity : WorldState → Type 0
IgnoreInactivity w = (s : Side) → (policy_at s w).handlers.inactivity ≡ Ignore

-- It is of an accepted put that is complete, and closed at both ends.
pub record IsCompleted (id : TransactionId) (w : WorldState) : Type 0 where
  pub put : AcceptedPut
  pub among : Contains w.puts put
  pub of : put.id ≡ id
  pub complete : IsCompleteAt (side_of id.source (seen w)) put w
