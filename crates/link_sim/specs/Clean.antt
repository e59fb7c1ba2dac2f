-- When nothing went wrong in a world, and when a put is complete.
use Rattle.std.specs.Prelude.{◌≡◌, ◌≢◌, ℕ, ◌==◌, not, Bool, true, false, get_or, Some, Contains}
use Rattle.std.specs.List.{list_any}
use Rattle.cfdp_directives.specs.User.Completions.{IsToldComplete}
use Rattle.cfdp_directives.specs.declared.user.indication.Indication.{Indication}
use Rattle.cfdp_directives.specs.declared.user.indication.Indication.TheVariants as indication
use Rattle.cfdp_directives.specs.declared.user.phase.Phase.TheVariants.{Closed}
use Rattle.cfdp_directives.specs.Pdu.Codes.{no_error}
use Rattle.cfdp_sender.specs.declared.phase.SenderPhase.{SenderPhase}
use Rattle.cfdp_sender.specs.declared.phase.SenderPhase.TheVariants as sending
use Rattle.cfdp_entity.specs.Entity.{EntityState, phase_told}
use Rattle.cfdp_entity.specs.Seen.{Sends, Receives}
use Rattle.cfdp_entity.specs.Table.{Entry}
use Rattle.aos_frame.specs.declared.config.Lane.{Lane}
use Rattle.link_stack.specs.Upward.{drop_count}
use Rattle.link_sim.specs.Observed.{seen}
use Rattle.station_pair.specs.Stations.{other}
use Rattle.link_sim.specs.Theorem.{completions_at, side_of}
use Rattle.link_sim.specs.World.State.{WorldState, entity_at, lane_from, station_at}
use Rattle.link_sim.specs.declared.event.AcceptedPut.{AcceptedPut}
use Rattle.station_pair.specs.declared.side.Side.{Side}

-- ---- nothing went wrong
-- what is indicated of any transaction: a fault, inactivity too, a suspension, an abandonment, or
-- an end with an error (conditions as in table 5-5)
abbrev pub is_bad : Indication → Bool
is_bad (indication.Fault id condition) = true
is_bad (indication.Suspended id condition) = true
is_bad (indication.Abandoned id condition) = true
is_bad (indication.Finished id condition delivery status) = not (condition == no_error)
is_bad _ = false

-- No PDU was dropped except of a transaction that has no record, and for which none is opened.
abbrev pub HasHeardAll : EntityState → Type 0
HasHeardAll e = (n : ℕ) → n ≢ 14 → get_or e.drops n 0 ≡ 0

abbrev pub is_cancelling_in : SenderPhase → Bool
is_cancelling_in sending.Sending = false
is_cancelling_in sending.Cancelling = true
is_cancelling_in sending.Closed = false

-- a sender whose user gave up, and that isn't closed yet
abbrev pub is_cancelling : Entry → Bool
is_cancelling (id, Sends x) = is_cancelling_in x.phase
is_cancelling (id, Receives r m) = false

-- An entity indicated nothing bad, cancels nothing, and dropped no PDU except of a transaction that
-- has no record and that opens none, such as a Prompt that comes before its Metadata.
pub record IsCleanEntity (e : EntityState) : Type 0 where
  pub told : list_any is_bad e.table.told ≡ false
  pub uncancelled : list_any is_cancelling e.table.records ≡ false
  pub heard : HasHeardAll e

-- So it is at a station, no frame that it sent was lost, and its link dropped nothing.
pub record IsCleanAt (s : Side) (w : WorldState) : Type 0 where
  pub entity : IsCleanEntity (entity_at s w)
  pub none_lost : (l : Lane) → list_any not (lane_from s l w).marks ≡ false
  pub read : (n : ℕ) → drop_count (station_at s w).up n ≡ 0

abbrev pub IsClean : WorldState → Type 0
IsClean w = (s : Side) → IsCleanAt s w

-- ---- a put is complete
-- The other station indicated it complete, so did its own one, and both records are closed.
pub record IsCompleteAt (s : Side) (p : AcceptedPut) (w : WorldState) : Type 0 where
  pub completed : Contains (completions_at (other s) (seen w)) p.id
  pub told : IsToldComplete (entity_at s w).config.entity (entity_at s w).table.told p.id
  pub closed : phase_told p.id (entity_at s w).table ≡ Some Closed
  pub closed_there : phase_told p.id (entity_at (other s) w).table ≡ Some Closed

-- Every accepted put is complete, at the station that made it and at the other one.
abbrev pub AllComplete : WorldState → Type 0
AllComplete w =
    (p : AcceptedPut) → Contains w.puts p → IsCompleteAt (side_of p.id.source (seen w)) p w
