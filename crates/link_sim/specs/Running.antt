-- Events that happen one after another, from a first world on.
use Rattle.std.specs.Prelude.{◌≡◌, ◌≢◌, ◌⊎◌, List, [], ◌∷◌, Contains}
use Rattle.cfdp_header.specs.Files.{FileMap}
use Rattle.cfdp_directives.specs.User.Put.{inbox_after}
use Rattle.link_sim.specs.declared.event.AcceptedPut.{AcceptedPut}
use Rattle.link_sim.specs.declared.event.Event.{Event}
use Rattle.link_sim.specs.declared.event.Applied.{Applied}
use Rattle.station_pair.specs.declared.recover_error.RecoverError.{RecoverError}
use Rattle.station_pair.specs.declared.settle_error.SettleError.{SettleError}
use Rattle.station_pair.specs.declared.side.Side.{Side}
use Rattle.station_pair.specs.declared.world_config.WorldConfig.{WorldConfig}
use Rattle.link_sim.specs.Observed.{seen}
use Rattle.link_sim.specs.Recovering.{EndsBy, Recovers}
use Rattle.link_sim.specs.Settling.{GoesWell, HasCause}
use Rattle.link_sim.specs.Spreading.{BurstFindsNoMemory, Bursts, Many, SpreadFindsNoMemory, Spreads}
use Rattle.link_sim.specs.Theorem.{HoldsAt, at, put_of, completions_at}
use Rattle.link_sim.specs.World.State.{WorldState, IsFirst, files_at}
use Rattle.link_sim.specs.World.Steps.{FindsNoMemory, Steps}

-- Each of the events did what stands beside it, in order, and so they led from the old world to the
-- new one. There are as many answers as events.
abbrev pub AreSteps : List Event → List Applied → (old new : WorldState) → Type 0
AreSteps [] [] old new = new ≡ old
AreSteps [] (d ∷ did) old new = ⊥
AreSteps (e ∷ events) [] old new = ⊥
AreSteps (e ∷ events) (d ∷ did) old new =
    (mid : WorldState) × Steps e d old mid × AreSteps events did mid new

abbrev pub Happens : List Event → (old new : WorldState) → Type 0
Happens events old new = (did : List Applied) × AreSteps events did old new

-- These events happened, from a first world on.
pub record Ran (c : WorldConfig) (outboxes inboxes : FileMap × FileMap) (events : List Event)
    (w : WorldState) : Type 0 where
  pub first : WorldState
  pub starts : IsFirst c outboxes inboxes first
  pub happened : Happens events first w

-- ---- any calls of a world
-- An event happened, or it found no memory.
abbrev pub Goes : (old new : WorldState) → Type 0
Goes old new = ((e : Event) × (d : Applied) × Steps e d old new)
    ⊎ ((s : Side) × FindsNoMemory s old new)

-- One call of a world, done to its end or ended before that: an event, a spread, a burst, a
-- settling, or a recovery.
abbrev pub Called : (old new : WorldState) → Type 0
Called old new = Goes old new
    ⊎ ((s : Side) × (Spreads s old new ⊎ SpreadFindsNoMemory s old new))
    ⊎ ((s : Side) × (Bursts s old new ⊎ BurstFindsNoMemory s old new))
    ⊎ (GoesWell old new ⊎ ((error : SettleError) × HasCause error old new))
    ⊎ (Recovers old new ⊎ ((error : RecoverError) × EndsBy error old new))

-- Any number of them led from the old world to the new one.
abbrev pub Led : (old new : WorldState) → Type 0
Led old new = Many Called old new

-- no two of these puts have the same id
abbrev pub AreApart : List AcceptedPut → Type 0
AreApart [] = Unit {0}
AreApart (p ∷ puts) = ((q : AcceptedPut) → Contains puts q → q.id ≢ p.id) × AreApart puts

-- What is promised of each world that they led to from a first one with these inboxes: each inbox
-- is its first files, overwritten in order of the completions there by the files of the puts that
-- they name; finished once, heard in full, indicated truly and sent truly; and no number recurs.
pub record KeepsPromises (inboxes : FileMap × FileMap) (w : WorldState) : Type 0 where
  pub inbox : (s : Side) → (at s (seen w)).inbox
      ≡ inbox_after (put_of (seen w)) (files_at s inboxes) (completions_at s (seen w))
  pub holds : (s : Side) → HoldsAt s (seen w)
  pub apart : AreApart w.puts
