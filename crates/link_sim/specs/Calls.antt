-- What each call of two stations did, by what it answered, and what a world promises of it.
use Rattle.std.specs.Prelude.{◌≡◌, ◌⊎◌, ℕ, List, IfErr, IfOk, OnErr, OnOk, Result}
use Rattle.std.specs.declared.alloc.AllocError.{AllocError}
use Rattle.cfdp_entity.specs.Polling.{Rests, turn}
use Rattle.link_sim.specs.declared.event.Applied.{Applied}
use Rattle.link_sim.specs.declared.event.Applied.TheVariants as dids
use Rattle.link_sim.specs.declared.event.Event.{Event}
use Rattle.link_sim.specs.declared.event.Event.TheVariants as event
use Rattle.station_pair.specs.declared.recover_error.RecoverError.{RecoverError}
use Rattle.station_pair.specs.declared.settle_error.SettleError.{SettleError}
use Rattle.station_pair.specs.declared.side.Side.{Side}
use Rattle.link_sim.specs.Clean.{AllComplete, IsClean}
use Rattle.link_sim.specs.Observed.{seen}
use Rattle.link_sim.specs.Recovering.{EndsBy, IsRecovered, Recovers}
use Rattle.link_sim.specs.Settling.{GoesWell, HasCause, IsOfSettling, IsSettled, KeepsAll, all_shortages}
use Rattle.link_sim.specs.Spreading.{BurstFindsNoMemory, Bursts, SpreadFindsNoMemory, Spreads}
use Rattle.link_sim.specs.Theorem.{Follows, HoldsAt}
use Rattle.link_sim.specs.World.State.{WorldState, entity_at, published_at}
use Rattle.link_sim.specs.World.Steps.{PublishesAt, Steps, WantsMemory}

-- ---- what a call did
-- The event did what it does, by the stations' own steps, and nothing else changed; or it found no
-- memory, which it needs, and nothing happened.
pub record TriesEvent (e : Event) (answer : Result Applied AllocError) (old new : WorldState)
    : Type 0 where
  pub steps : IfOk answer (λ did. Steps e did old new)
  pub err : OnErr answer (new ≡ old)
  pub lacks : OnErr answer (WantsMemory e)

-- A station sent all that was due, with a flush after each PDU, and nothing else happened; or the
-- first of its polls and flushes that found no memory ended it.
pub record TriesSpread (s : Side) (answer : Result (Unit {0}) AllocError) (old new : WorldState)
    : Type 0 where
  pub rests : OnOk answer (turn (entity_at s new) ≡ Rests)
  pub spreads : OnOk answer (Spreads s old new)
  pub lacks : OnErr answer (SpreadFindsNoMemory s old new)

-- So it did with one flush after all of them.
pub record TriesBurst (s : Side) (answer : Result (Unit {0}) AllocError) (old new : WorldState)
    : Type 0 where
  pub rests : OnOk answer (turn (entity_at s new) ≡ Rests)
  pub bursts : OnOk answer (Bursts s old new)
  pub lacks : OnErr answer (BurstFindsNoMemory s old new)

-- All is settled, and nothing was short; or an error says what was in the first event in which
-- anything was. The events came in the order of rounds.
pub record TriesSettling (answer : Result (Unit {0}) SettleError) (old new : WorldState)
    : Type 0 where
  pub settled : OnOk answer (IsSettled new)
  pub well : OnOk answer (GoesWell old new)
  pub cause : IfErr answer (λ error. HasCause error old new)

-- Only settlings and ticks of the next deadline happened, and nothing was short; an error says what
-- was in the first event in which anything was, or that a timer is left.
pub record TriesRecovery (answer : Result (Unit {0}) RecoverError) (old new : WorldState)
    : Type 0 where
  pub recovered : OnOk answer (IsRecovered new)
  pub well : OnOk answer (Recovers old new)
  pub cause : IfErr answer (λ error. EndsBy error old new)

-- ---- what a world promises
-- Of any call: puts that were accepted stay what they are, each inbox was overwritten by the files
-- of the puts that were completed in it, and the promises hold: finished once, heard in full,
-- indicated truly and sent truly.
pub record Upholds (old new : WorldState) : Type 0 where
  pub follows : Follows (seen old) (seen new)
  pub holds : (s : Side) → HoldsAt s (seen new)

-- Of an event: what a station published changes in none but a delivery to it. A poll, a flush and a
-- delivery in which nothing was short leave a clean world clean, and so does a put that is
-- accepted.
pub record Applies (e : Event) (answer : Result Applied AllocError) (old new : WorldState)
    : Type 0 where
  pub tries : TriesEvent e answer old new
  pub upholds : Upholds old new
  pub published : (s : Side) → PublishesAt s e ⊎ (published_at s new ≡ published_at s old)
  pub clean : IsOfSettling e → IfOk answer (λ did. did ≡ dids.Applied
      → KeepsAll (all_shortages old) (all_shortages new) → IsClean old → IsClean new)
  pub clean_put : (s : Side) (source destination : List ℕ) → e ≡ event.Put s source destination
      → IfOk answer (λ did. did ≡ dids.Applied → IsClean old → IsClean new)

-- Of a settling: if the world was clean, every put is complete and closed at both ends.
pub record Settles (answer : Result (Unit {0}) SettleError) (old new : WorldState) : Type 0 where
  pub tries : TriesSettling answer old new
  pub upholds : Upholds old new
  pub completes : OnOk answer (IsClean old → AllComplete new)
