-- Stations that resume with something to do for each open transaction.
use Rattle.std.specs.Prelude.{◌≡◌, List, [], ◌∷◌}
use Rattle.cfdp_endings.specs.Entity.{AllOwe}
use Rattle.any_order.specs.Calls.{Pair, Setup, at, entity_of, setup_of}
use Rattle.any_order.specs.Resuming.{Calls, LifeEvent, HappensOrResumes, ResumesAt}

-- In each record that is restored, an EOF that cancels, or a Finished, is due or counts as sent if
-- the record waits for its answer. The entity has the policy that it was set up with.
abbrev pub IsOwing : Setup → LifeEvent → Pair → Type 0
IsOwing c (Calls event) new = Unit {0}
IsOwing c (ResumesAt s first) new = AllOwe (entity_of (at s new)).table.records
    × ((entity_of (at s new)).config.policy ≡ (setup_of s c).entity.policy)

abbrev pub HappenOwing : Setup → List LifeEvent → (old new : Pair) → Type 0
HappenOwing c [] old new = new ≡ old
HappenOwing c (event ∷ events) old new = (mid : Pair)
    × (HappensOrResumes c event old mid × IsOwing c event mid) × HappenOwing c events mid new
