-- Turns in which nothing is lost, and a timer of a transaction that expires in the first of them.
use Rattle.std.specs.Prelude.{◌≡◌, ◌≢◌, ◌+◌, ◌<◌, ℕ, true, false, List, [], ◌∷◌, ◌++◌, length, slice_index_or}
use Rattle.aos_frame.specs.declared.config.Lane.{Lane}
use Rattle.mpdu.specs.Packing.{flush_of}
use Rattle.link_stack.specs.Downward.{lane_down, packing}
use Rattle.cfdp_timers.specs.declared.kind.Kind.{Kind}
use Rattle.cfdp_timers.specs.declared.kind.Kind.TheVariants.{Inactivity}
use Rattle.cfdp_entity.specs.Table.{record_of}
use Rattle.station_pair.specs.declared.side.Side.{Side}
use Rattle.station_pair.specs.Stations.{other}
use Rattle.link_sim.specs.declared.event.AcceptedPut.{AcceptedPut}
use Rattle.link_sim.specs.declared.event.Event.TheVariants as event
use Rattle.link_sim.specs.World.State.{entity_at, station_at}
use Rattle.cfdp_port.specs.Calls.{WireCall}
use Rattle.cfdp_port.specs.Pair.{PairState, TakesTurn}
use Rattle.cfdp_port.specs.Passing.{frames_came, frames_left}
use Rattle.ports_in_order.specs.InOrder.{Passage, taken_to}
use Rattle.outages.specs.Spared.{NothingDueIn}
use Rattle.outages.specs.Tries.{IsCalm}
use Rattle.outages_by_turns.specs.Turns.{Turn, expires_in, in_world, then_pair}

-- All frames that were sent come, each in the order of its lane. So many of each lane came before.
abbrev pub AllCome : (sent : Lane → List (List ℕ)) → (taken : Lane → ℕ) → (came : List (List ℕ))
    → Type 0
AllCome sent taken [] = (lane : Lane) → taken lane ≡ length (sent lane)
AllCome sent taken (frame ∷ came) = (lane : Lane) × (taken lane < length (sent lane))
    × (frame ≡ slice_index_or (sent lane) (taken lane) [])
    × AllCome sent (taken_to lane (taken lane + 1) taken) came

-- Nothing of the put's transaction is due at either station, and all octets that waited in their
-- lanes have left, as they have after each turn.
pub record IsIdle {W : Type 0} (put : AcceptedPut) (p : PairState W) : Type 0 where
  pub due : (s : Side)
      → NothingDueIn (record_of put.id (entity_at s (in_world put p)).table.records)
  pub filled : (s : Side) (lane : Lane)
      → flush_of (packing (lane_down lane (station_at s (in_world put p)).down)) ≡ []

module _ {W : Type 0} (Steps : W → WireCall → W → Type 0) where
  -- In this turn each station received what left the other one in it: all of it, and nothing else.
  pub record LosesNothing (now : ℕ) (old new : PairState W) (turn : TakesTurn Steps now old new)
      : Type 0 where
    pub to_two : let sends = turn.one_sends.sends in let hears = turn.two_hears in
        AllCome (λ lane. frames_left Steps lane sends.count _ _ sends.sent) (λ lane. 0)
        (frames_came Steps hears.count _ _ hears.heard)
    pub to_one : let sends = turn.two_sends.sends in let hears = turn.one_hears in
        AllCome (λ lane. frames_left Steps lane sends.count _ _ sends.sent) (λ lane. 0)
        (frames_came Steps hears.count _ _ hears.heard)

  -- What passed up to its end, if what left before and didn't come is lost.
  abbrev pub passed_whole : (now : ℕ) → (old new : PairState W) → TakesTurn Steps now old new
      → Passage → Passage
  passed_whole now old new turn before = let one = turn.one_sends.sends in
      let two = turn.two_sends.sends in record {
        from_one = λ lane. before.from_one lane ++ frames_left Steps lane one.count _ _ one.sent;
        from_two = λ lane. before.from_two lane ++ frames_left Steps lane two.count _ _ two.sent;
        taken_one = λ lane.
            length (before.from_one lane ++ frames_left Steps lane one.count _ _ one.sent);
        taken_two = λ lane.
            length (before.from_two lane ++ frames_left Steps lane two.count _ _ two.sent);
      }

  -- In these turns nothing is lost, and no timer of the put's transaction expires.
  abbrev pub AreWhole : AcceptedPut → List (Turn W) → (old : PairState W)
      → (before after : Passage) → Type 0
  AreWhole put [] old before after = after ≡ before
  AreWhole put (t ∷ turns) old before after = (turn : TakesTurn Steps t.now old t.after)
      × LosesNothing t.now old t.after turn
      × ((s : Side) (k : Kind) → expires_in put s k t.now old ≡ false)
      × AreWhole put turns t.after (passed_whole t.now old t.after turn before) after

  -- The put's transaction was idle, and in the first of these turns a timer of it, other than that
  -- of Inactivity, expires at one station, and none at the other one. What left before and didn't
  -- come is lost. From then on nothing is lost, and no timer of it expires, until it is idle again.
  pub record GetsThroughIn (put : AcceptedPut) (old : PairState W) (first : Turn W)
      (later : List (Turn W)) (before after : Passage) : Type 0 where
    pub idle : IsIdle put old
    pub turn : TakesTurn Steps first.now old first.after
    pub whole : LosesNothing first.now old first.after turn
    pub side : Side
    pub kind : Kind
    pub answerable : kind ≢ Inactivity
    pub expires : expires_in put side kind first.now old ≡ true
    pub calm : IsCalm put.id (in_world put old) (event.Tick side first.now)
    pub alone : (k : Kind) → expires_in put (other side) k first.now old ≡ false
    pub rest : AreWhole put later first.after
        (passed_whole first.now old first.after turn before) after
    pub idle_then : IsIdle put (then_pair first.after later)
