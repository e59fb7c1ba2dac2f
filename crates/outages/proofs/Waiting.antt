-- A transaction that waits and may try again outlives an outage.
use Rattle.std.proofs.Common.{◌⊎◌, inl, inr, ℕ, suc, ◌+◌, true, List, subst, sym, arith}
use Rattle.cfdp_header.specs.Files.{FileMap}
use Rattle.cfdp_header.specs.declared.value.TransactionId.{TransactionId}
use Rattle.cfdp_timers.specs.declared.kind.Kind.{Kind}
use Rattle.cfdp_timers.specs.declared.kind.Kind.TheVariants.{EofAck, Nak, FinishedAck}
use Rattle.cfdp_directives.specs.User.Put.{Put}
use Rattle.station_pair.specs.declared.side.Side.{Side}
use Rattle.station_pair.specs.Stations.{IsWorldConfig, other}
use Rattle.link_sim.specs.Found.{IsPutOf}
use Rattle.station_pair.specs.declared.world_config.WorldConfig.{WorldConfig}
use Rattle.link_sim.specs.Running.{Goes, Led}
use Rattle.link_sim.specs.Sound.{IsSound}
use Rattle.link_sim.specs.Waiting.{IsCompleted, IsWaiting, policy_at}
use Rattle.link_sim.specs.World.State.{IsFirst, WorldState}
use Rattle.link_sim.proofs.Clean.Found.{first-found}
use Rattle.link_sim.proofs.Clean.Settles.{CleanLaws}
use Rattle.link_sim.proofs.EveryPut.Events.{first-courses}
use Rattle.link_sim.proofs.Events.Leading.{led-keeps}
use Rattle.link_sim.proofs.Found.Exchanges.{has-exchange}
use Rattle.link_sim.proofs.Ways.First.{first-rests}
use Rattle.outages.specs.Outage.{AreOfOutage, Happening}
use Rattle.outages.specs.Tries.{AreCalm, GoesOn, MayTry, expiries}
use Rattle.outages.proofs.Ends.{IsTracked, first-holds, goes-on-or, tracked}
use Rattle.outages.proofs.Outlasting.{Outlasts, fewer, limits-so, outlasts}
use Rattle.outages.proofs.Tracking.{IsReached, reached-next}

-- every world to which calls lead
pub reached-led : CleanLaws → (c : WorldConfig) (outboxes inboxes : FileMap × FileMap) (first now : WorldState) → IsWorldConfig c → IsFirst c outboxes inboxes first
    → IsSound first → Led first now → IsReached now
reached-led all c outboxes inboxes first now valid is sound led = led-keeps IsReached kept first now (record {
  sound = sound;
  kept = record { course = first-courses c outboxes inboxes first is; found = first-found first is.puts };
  rested = first-rests c outboxes inboxes first valid is;
}) led
  where
    kept : (a b : WorldState) → IsReached a → Goes a b → IsReached b
    kept a b r (inl (e, d, step)) = reached-next all e d a b step r
    kept a b r (inr (s, same)) = subst IsReached (sym same) r

pub outlived : CleanLaws → (id : TransactionId) (hs : List Happening) (old new : WorldState) → IsReached old → IsWaiting id old → AreOfOutage id hs old new → AreCalm id old hs →
    MayTry id (expiries id old hs) old → GoesOn id new ⊎ IsCompleted id new
outlived all id hs old new r waits are calm may =
    let t : IsTracked id old = tracked id old r waits.unfinished in
    subst (λ i. IsWaiting i old → AreOfOutage i hs old new → AreCalm i old hs → MayTry i (expiries i old hs) old → GoesOn i new ⊎ IsCompleted i new) t.of
    (λ waits are calm may. of-put t.side t.put t.own waits are calm may) waits are calm may
  where
    of-put : (s : Side) (put : Put) → IsPutOf s put old → IsWaiting put.id old → AreOfOutage put.id hs old new → AreCalm put.id old hs → MayTry put.id (expiries put.id old hs) old →
        GoesOn put.id new ⊎ IsCompleted put.id new
    of-put s put own waits are calm may =
        let x = has-exchange s put old r.sound r.kept.course own in
        let n : Side → Kind → ℕ = expiries put.id old hs in
        let o : Outlasts all true s put 1 1 1 old new x.0 = outlasts all true s put hs old new r own x.0 x.1 1 1 1 are calm
        (fewer true (policy_at s old).limits (policy_at (other s) old).limits put (suc (n s EofAck)) (suc (n (other s) Nak)) (suc (n (other s) FinishedAck)) (n s EofAck + 1) (n (other s) Nak + 1) (n (other s) FinishedAck + 1) x.0
        (omega arith) (omega arith) (omega arith) (first-holds true s put old r own x.0 x.1 waits n may)) in
        goes-on-or s put new o.reached o.own o.comes.end o.comes.has (limits-so true put 1 1 1 s old new o.comes.end o.policy o.comes.holds)
