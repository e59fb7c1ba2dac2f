-- A transaction completes with the second expiry of a run of turns after which nothing is lost.
use Rattle.std.proofs.Common.{◌≡◌, ℕ, ◌+◌, ◌≤◌, List, refl, sym, arith}
use Rattle.cfdp_header.specs.Files.{FileMap}
use Rattle.cfdp_header.specs.declared.value.TransactionId.{TransactionId}
use Rattle.cfdp_timers.specs.declared.kind.Kind.{Kind}
use Rattle.station_pair.specs.declared.side.Side.{Side}
use Rattle.station_pair.specs.declared.world_config.WorldConfig.{WorldConfig}
use Rattle.station_pair.specs.Stations.{IsWorldConfig}
use Rattle.link_sim.specs.declared.event.AcceptedPut.{AcceptedPut}
use Rattle.link_sim.specs.Running.{Led}
use Rattle.link_sim.specs.Waiting.{IsCompleted, IsWaiting}
use Rattle.link_sim.specs.World.State.{IsFirst, WorldState}
use Rattle.ports_in_order.proofs.Aside.{AnyEvent, none_taken, reaches_led}
use Rattle.cfdp_port.specs.Calls.{WireCall}
use Rattle.cfdp_port.specs.Pair.{PairState}
use Rattle.cfdp_port.proofs.GainLemmas.{GoesOnLaws}
use Rattle.ports_in_order.specs.InOrder.{Passage}
use Rattle.outages.specs.Outage.{AreOfOutage, Happening}
use Rattle.outages.specs.Spared.{GetsThrough}
use Rattle.outages.specs.Tries.{AreCalm, MayTry, expiries}
use Rattle.outages.proofs.Rising.{first-keeps, then-keeps}
use Rattle.outages.proofs.Tracking.{IsReached}
use Rattle.outages_by_turns.specs.Turns.{AreCalmIn, AreTurns, HaveTurned, NoneShort, Turn, expiries_in, in_world, then_pair}
use Rattle.outages_by_turns.specs.Whole.{GetsThroughIn}
use Rattle.outages_by_turns.proofs.ByTurns.{Reached, reached, stood}
use Rattle.outages_by_turns.proofs.Completing.{OnceOn, fewer-one, fewer-two, gets-grow, gets-stood, once-on, turns-grow}
use Rattle.outages_by_turns.proofs.Points.{AreFewer, Point, Stand, world}
use Rattle.outages_by_turns.proofs.Seen.{completed, may-try, waits}
use Rattle.outages_by_turns.proofs.Tries.{tries-as}

-- the law of a world
abbrev pub Completes : Type 0
Completes = (c : WorldConfig) (outboxes inboxes : FileMap × FileMap) (first old held through again new : WorldState) (id : TransactionId) (before between : List Happening)
    → IsWorldConfig c → IsFirst c outboxes inboxes first → Led first old → IsWaiting id old → AreOfOutage id before old held → AreCalm id old before → GetsThrough id held through
    → AreOfOutage id between through again → AreCalm id through between → GetsThrough id again new → MayTry id (λ s k. expiries id old before s k + expiries id through between s k) old → IsCompleted id new

module _ {W : Type 0} (Steps : W → WireCall → W → Type 0) (laws : GoesOnLaws) (c : WorldConfig) (outboxes inboxes : FileMap × FileMap) (put : AcceptedPut) (old : PairState W) (p0 : Passage)
    (have : HaveTurned Steps c outboxes inboxes put old p0) (completes : Completes) (all_reached : (first now : WorldState) → IsFirst c outboxes inboxes first → Led first now → IsReached now) where
  pub twice : (before between : List (Turn W)) (one two : Turn W) (later again : List (Turn W)) (p1 p2 p3 p4 : Passage) → AreTurns Steps before old p0 p1 → GetsThroughIn Steps put (then_pair old before) one later p1 p2
      → AreTurns Steps between (then_pair one.after later) p2 p3 → GetsThroughIn Steps put (then_pair (then_pair one.after later) between) two again p3 p4
      → Stand (then_pair two.after again).one.station → Stand (then_pair two.after again).two.station → AreFewer p4.from_one → AreFewer p4.from_two → NoneShort old (then_pair two.after again)
      → IsWaiting put.id (in_world put old) → AreCalmIn put old before → AreCalmIn put (then_pair one.after later) between
      → MayTry put.id (λ s k. expiries_in put old before s k + expiries_in put (then_pair one.after later) between s k) (in_world put old) → IsCompleted put.id (in_world put (then_pair two.after again))
  twice before between one two later again p1 p2 p3 p4 are g1 are1 g2 stand_one stand_two most_one most_two short waiting calm calm1 may =
      let through : PairState W = then_pair one.after later in
      let new : PairState W = then_pair two.after again in
      let s3 = gets-stood Steps laws put (then_pair through between) two again p3 p4 g2 stand_one stand_two in
      let s2 = stood Steps laws between through p2 p3 are1 s3.0 s3.1 in
      let s1 = gets-stood Steps laws put (then_pair old before) one later p1 p2 g1 s2.0 s2.1 in
      let s0 = stood Steps laws before old p0 p1 are s1.0 s1.1 in
      let few3_one : AreFewer p3.from_one = fewer-one p3 p4 (gets-grow Steps laws put (then_pair through between) two again p3 p4 g2) most_one in
      let few3_two : AreFewer p3.from_two = fewer-two p3 p4 (gets-grow Steps laws put (then_pair through between) two again p3 p4 g2) most_two in
      let few2_one : AreFewer p2.from_one = fewer-one p2 p3 (turns-grow Steps laws between through p2 p3 are1) few3_one in
      let few2_two : AreFewer p2.from_two = fewer-two p2 p3 (turns-grow Steps laws between through p2 p3 are1) few3_two in
      let r : Reached Steps laws c outboxes inboxes put old p0 have = reached Steps laws c outboxes inboxes put old p0 have s0.0 s0.1 in
      let x0 : Point Steps laws r.first put old p0 = record { gone_one = none_taken; gone_two = none_taken; at = r.at; few_one = λ x. (let low : 0 ≤ p0.taken_one x = omega arith in low); few_two = λ x. (let low : 0 ≤ p0.taken_two x = omega arith in low) } in
      let led : (w : WorldState) → Led r.first w → IsReached w = λ w l. all_reached r.first w r.starts l in
      let o1 : OnceOn Steps laws r.first put old before one later p0 p2 x0 = once-on Steps laws r.first put led before old one later p0 p1 p2 are g1 s2.0 s2.1 few2_one few2_two x0 in
      let o2 : OnceOn Steps laws r.first put through between two again p2 p4 o1.next = once-on Steps laws r.first put led between through two again p2 p3 p4 are1 g2 stand_one stand_two most_one most_two o1.next in
      let a : WorldState = world Steps laws r.first put old p0 x0 in
      let b : WorldState = world Steps laws r.first put through p2 o1.next in
      let d : WorldState = world Steps laws r.first put new p4 o2.next in
      let h1 = o1.once.happened (first-keeps a b d o1.once.rises o2.once.rises short) in
      let h2 = o2.once.happened (then-keeps a b d o1.once.rises o2.once.rises short) in
      let n : Side → Kind → ℕ = λ s k. expiries_in put old before s k + expiries_in put through between s k in
      let m : Side → Kind → ℕ = λ s k. expiries put.id a h1.1.happened s k + expiries put.id b h2.1.happened s k in
      let same : (s : Side) (k : Kind) → n s k ≡ m s k = λ s k. (
      let e : expiries put.id a h1.1.happened s k ≡ expiries_in put old before s k = h1.1.expire s k in
      let f : expiries put.id b h2.1.happened s k ≡ expiries_in put through between s k = h2.1.expire s k in
      omega (arith, e, f)) in
      completed d (in_world put new) refl refl refl put.id
      (completes c outboxes inboxes r.first a h1.0 b h2.0 d put.id h1.1.happened h2.1.happened have.valid r.starts (reaches_led AnyEvent r.first a x0.at.led)
      (waits (in_world put old) a refl refl refl put.id waiting) h1.1.are (h1.1.are_calm calm) h1.2 h2.1.are (h2.1.are_calm calm1) h2.2
      (tries-as put.id n m same a (may-try (in_world put old) a refl refl refl put.id n may)))
