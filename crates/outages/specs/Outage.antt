-- What may happen while a link loses frames, for a while or for ever.
use Rattle.std.specs.Prelude.{◌≡◌, ◌≢◌, List, [], ◌∷◌}
use Rattle.cfdp_header.specs.declared.value.TransactionId.{TransactionId}
use Rattle.link_sim.specs.declared.event.Event.{Event}
use Rattle.link_sim.specs.declared.event.Event.TheVariants as event
use Rattle.link_sim.specs.declared.event.Applied.{Applied}
use Rattle.link_sim.specs.Settling.{KeepsAll, all_shortages}
use Rattle.link_sim.specs.World.State.{WorldState}
use Rattle.link_sim.specs.World.Steps.{Steps}

-- ---- an outage
-- Stations send, frames arrive, are lost or come damaged, the time is given, and users put files
-- and make calls, but none on this transaction.
abbrev pub IsOfOutage : TransactionId → Event → Type 0
IsOfOutage id (event.Poll s) = Unit {0}
IsOfOutage id (event.Flush s) = Unit {0}
IsOfOutage id (event.Deliver s l) = Unit {0}
IsOfOutage id (event.Strike s l) = Unit {0}
IsOfOutage id (event.Damage s l octets) = Unit {0}
IsOfOutage id (event.Tick s now) = Unit {0}
IsOfOutage id (event.Put s source destination) = Unit {0}
IsOfOutage id (event.Cancel s of) = of ≢ id
IsOfOutage id (event.Suspend s of) = of ≢ id
IsOfOutage id (event.Resume s of) = of ≢ id
IsOfOutage id (event.Prompt s of keep_alive) = of ≢ id

-- an event, what it did, and the world after it
pub record Happening : Type 0 where
  pub event : Event
  pub did : Applied
  pub after : WorldState

-- These events led from the old world to the new one, in any order and with any losses, and in none
-- of them a station was short of memory, of its stores or of room.
abbrev pub AreOfOutage : TransactionId → List Happening → (old new : WorldState) → Type 0
AreOfOutage id [] old new = new ≡ old
AreOfOutage id (h ∷ hs) old new = IsOfOutage id h.event × Steps h.event h.did old h.after
    × KeepsAll (all_shortages old) (all_shortages h.after) × AreOfOutage id hs h.after new
