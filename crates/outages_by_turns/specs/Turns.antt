-- Two ports that take turns over wires that keep the order of each lane: which turns, and what an
-- outage is of them.
use Rattle.std.specs.Prelude.{◌≡◌, ◌+◌, ℕ, zero, suc, Bool, List, [], ◌∷◌, ◌++◌, Ok}
use Rattle.cfdp_header.specs.Files.{FileMap}
use Rattle.cfdp_header.specs.declared.value.TransactionId.{TransactionId}
use Rattle.cfdp_timers.specs.declared.kind.Kind.{Kind}
use Rattle.cfdp_timers.specs.Due.{is_due}
use Rattle.cfdp_station.specs.New.{IsFirstAt}
use Rattle.station_pair.specs.declared.side.Side.{Side}
use Rattle.station_pair.specs.declared.world_config.WorldConfig.{WorldConfig}
use Rattle.station_pair.specs.Stations.{IsWorldConfig}
use Rattle.link_sim.specs.declared.event.AcceptedPut.{AcceptedPut}
use Rattle.link_sim.specs.declared.event.Event.TheVariants as event
use Rattle.link_sim.specs.Recovering.{armed_at}
use Rattle.link_sim.specs.Settling.{KeepsAll, shortages}
use Rattle.link_sim.specs.World.State.{WorldState, no_lanes}
use Rattle.cfdp_port.specs.Asking.{Puts}
use Rattle.cfdp_port.specs.Calls.{WireCall}
use Rattle.cfdp_port.specs.Pair.{PairState, TakesTurn, Turns}
use Rattle.cfdp_port.specs.Port.{AtStation, PortState}
use Rattle.ports_in_order.specs.InOrder.{Passage, PassesInOrder, nothing_passed}
use Rattle.outages.specs.Tries.{IsCalm, one_if, time_told}

-- ---- turns
-- which time a turn gave both stations, and the two ports after it
pub record Turn (W : Type 0) : Type 0 where
  pub now : ℕ
  pub after : PairState W

-- the two ports after these turns
abbrev pub then_pair : {W : Type 0} → PairState W → List (Turn W) → PairState W
then_pair old [] = old
then_pair old (t ∷ turns) = then_pair t.after turns

module _ {W : Type 0} (Steps : W → WireCall → W → Type 0) where
  -- These turns were taken, one after another, at any times. What came in each did so in the order
  -- of its lane, and the rest of it was lost or is on its way; this passed before, and this in all.
  abbrev pub AreTurns : List (Turn W) → (old : PairState W) → (before after : Passage) → Type 0
  AreTurns [] old before after = after ≡ before
  AreTurns (t ∷ turns) old before after = (turn : TakesTurn Steps t.now old t.after)
      × (passed : Passage) × PassesInOrder Steps t.now old t.after turn before passed
      × AreTurns turns t.after passed after

  -- turns that were numbered from 1 on
  abbrev pub numbered : (id : TransactionId) → (count : ℕ) → (old new : PairState W)
      → Turns Steps id count old new → List (Turn W)
  numbered id zero old new same = []
  numbered id (suc count) old new (mid, before, unclosed, turn) =
      numbered id count old mid before ++ record { now = count + 1; after = new } ∷ []

  -- Two new stations of this configuration, of which the first accepted this put alone, took turns,
  -- and now they are these. They began with these files to send, and these published.
  pub record HaveTurned (c : WorldConfig) (outboxes inboxes : FileMap × FileMap)
      (put : AcceptedPut) (now : PairState W) (passed : Passage) : Type 0 where
    pub valid : IsWorldConfig c
    pub first : PairState W
    pub first_one : IsFirstAt c.one outboxes.0 inboxes.0 first.one.station
    pub first_two : IsFirstAt c.two outboxes.1 inboxes.1 first.two.station
    pub one : PortState W
    pub puts : AtStation (Puts put.source put.destination (Ok put.id)) first.one one
    pub turns : List (Turn W)
    pub are : AreTurns turns (record first { one = one }) nothing_passed passed
    pub is : now ≡ then_pair (record first { one = one }) turns

-- ---- what is seen of two stations
-- They as those of a world in which this put alone was accepted. What `outages` says of a
-- transaction in a world, except that it is quiet, doesn't look at the world's links.
abbrev pub in_world : {W : Type 0} → AcceptedPut → PairState W → WorldState
in_world put p = record {
  one = p.one.station;
  two = p.two.station;
  from_one = no_lanes;
  from_two = no_lanes;
  puts = put ∷ [];
  ticks = 0;
}

-- No count that shows a shortage differs at either station, so in no turn between them a station
-- was short of memory, of its stores or of room: such counts never fall.
abbrev pub NoneShort : {W : Type 0} → (old new : PairState W) → Type 0
NoneShort old new = KeepsAll (shortages old.one.station, shortages old.two.station)
    (shortages new.one.station, shortages new.two.station)

-- ---- an outage
-- whether a timer of this kind of the put's transaction expires at a station if a turn gives it
-- this time
abbrev pub expires_in : {W : Type 0} → AcceptedPut → Side → Kind → ℕ → PairState W → Bool
expires_in put s k now old = let w = in_world put old in
    is_due (armed_at s w) (time_told s now w) (put.id, k)

-- how often one does in these turns
abbrev pub expiries_in : {W : Type 0} → AcceptedPut → PairState W → List (Turn W) → Side → Kind → ℕ
expiries_in put old [] s k = 0
expiries_in put old (t ∷ turns) s k =
    one_if (expires_in put s k t.now old) + expiries_in put t.after turns s k

-- In none of them the timer for hearing nothing at all of the transaction expires at a station, or
-- the station ignores that.
abbrev pub AreCalmIn : {W : Type 0} → AcceptedPut → PairState W → List (Turn W) → Type 0
AreCalmIn put old [] = Unit {0}
AreCalmIn put old (t ∷ turns) =
    ((s : Side) → IsCalm put.id (in_world put old) (event.Tick s t.now))
    × AreCalmIn put t.after turns
