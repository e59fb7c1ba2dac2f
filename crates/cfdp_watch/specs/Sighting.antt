-- What a log of sightings keeps.
use Rattle.std.specs.Prelude.{◌≡◌, ◌⊎◌, ◌+◌, ◌-◌, ◌^◌, ℕ, true, min, List, [], ◌∷◌, ◌++◌}
use Rattle.station_pair.specs.declared.side.Side.{Side}
use Rattle.cfdp_watch.specs.declared.sighting.Deed.{Deed}
use Rattle.cfdp_watch.specs.declared.sighting.Log.{Log}
use Rattle.cfdp_watch.specs.declared.sighting.Sighting.{Sighting}

-- One sighting more stands after the others: what this station did with these octets. It is of the
-- step and the event at which the log is, and has the next place in it.
pub record NotesOne (station : Side) (deed : Deed) (octets : List ℕ) (old new : Log) : Type 0 where
  pub noted : Sighting
  pub items : new.sightings.items ≡ old.sightings.items ++ noted ∷ []
  pub step : noted.step ≡ old.step
  pub event : noted.event ≡ old.event
  pub place : noted.place ≡ old.place
  pub station_of : noted.station ≡ station
  pub deed_of : noted.deed ≡ deed
  pub octets_of : noted.octets.items ≡ octets
  pub next : new.place ≡ min (old.place + 1) (2 ^ 32 - 1)
  pub kept : (new.step ≡ old.step) × (new.event ≡ old.event) × (new.is_short ≡ old.is_short)

-- Nothing was noted.
pub record NotesNone (old new : Log) : Type 0 where
  pub items : new.sightings.items ≡ old.sightings.items
  pub kept : (new.step ≡ old.step) × (new.event ≡ old.event) × (new.place ≡ old.place)

-- There was no memory for it: nothing was noted, and the log is short from then on.
pub record IsCutShort (old new : Log) : Type 0 where
  pub none : NotesNone old new
  pub short : new.is_short ≡ true

-- What a station did was noted, or there was no memory for it.
abbrev pub Notes : Side → Deed → List ℕ → (old new : Log) → Type 0
Notes station deed octets old new = NotesOne station deed octets old new ⊎ IsCutShort old new

-- What was seen is discarded, and all else stays.
pub record Forgets (old new : Log) : Type 0 where
  pub items : new.sightings.items ≡ []
  pub kept : (new.step ≡ old.step) × (new.event ≡ old.event) × (new.place ≡ old.place)
      × (new.is_short ≡ old.is_short)
