-- A receiver after a restart, and what it was when its station was killed.
use Rattle.std.specs.Prelude.{◌≡◌, ◌⊎◌, ℕ, true, Option, None}
use Rattle.std.specs.FinMap as map
use Rattle.std.specs.FinSet as set
use Rattle.cfdp_store.specs.Staged.{OctetMap}
use Rattle.cfdp_receiver.specs.declared.state.ReceiverPhase.TheVariants.{Receiving}
use Rattle.cfdp_receiver.specs.State.{ReceiverState, kind_told}
pub use Rattle.cfdp_receiver.specs.Summed.{IsStagedIn, CutsStaged, SumsStaged}

-- It is what was known, or it isn't known any more.
abbrev pub IsKeptOf : {A : Type 0} → (old new : Option A) → Type 0
IsKeptOf old new = (new ≡ None) ⊎ (new ≡ old)

-- A receiver was r, with the octets of m staged, when its station was killed, and is restored as s,
-- with those of n. It is of the same transaction, written in the same widths. It knows the Metadata
-- that r knew, or none, and so with the EOF. While it receives, it holds only offsets that r held
-- while r received; the same octets are still staged there, and its sums are those of these octets.
-- What is due, and the counts, may be anything.
pub record IsRestoredReceiver (r : ReceiverState) (m : OctetMap) (s : ReceiverState) (n : OctetMap)
    : Type 0 where
  pub addressing : s.addressing ≡ r.addressing
  pub metadata : IsKeptOf r.metadata s.metadata
  pub ending : IsKeptOf r.ending s.ending
  pub held : s.phase ≡ Receiving → (k : ℕ) → set.contains s.held k ≡ true
      → (r.phase ≡ Receiving) × (set.contains r.held k ≡ true) × (map.get n k ≡ map.get m k)
  pub sums : s.phase ≡ Receiving → SumsStaged (kind_told s.metadata) s.held n s.sums
