-- Tries that are left depend on how often timers expire, not on how that is counted.
use Rattle.std.proofs.Common.{◌≡◌, ℕ, subst}
use Rattle.cfdp_header.specs.declared.value.TransactionId.{TransactionId}
use Rattle.cfdp_timers.specs.declared.kind.Kind.{Kind}
use Rattle.cfdp_entity.specs.Table.{record_of}
use Rattle.station_pair.specs.declared.side.Side.{Side}
use Rattle.link_sim.specs.Waiting.{policy_at}
use Rattle.link_sim.specs.World.State.{WorldState, entity_at}
use Rattle.outages.specs.Tries.{HasTriesIn, MayTry}

pub tries-as : (id : TransactionId) (n m : Side → Kind → ℕ) → ((s : Side) (k : Kind) → n s k ≡ m s k) → (w : WorldState) → MayTry id n w → MayTry id m w
tries-as id n m same w may s = subst (λ (f : Kind → ℕ). HasTriesIn (policy_at s w).limits f (record_of id (entity_at s w).table.records)) (λ i k. same s k i) (may s)
