-- Turns in which nothing is lost, from an expiry on: it gets through.
use Rattle.std.proofs.Common.{◌≡◌, ◌≢◌, ◌⊎◌, ℕ, ◌+◌, ◌<◌, ◌≤◌, ◌&&◌, true, false, List, [], ◌∷◌, ◌++◌, length, max, refl, sym, ap, subst, ◌∙◌, arith, length-append}
use Rattle.aos_frame.specs.Counts.{frame_counts}
use Rattle.aos_frame.specs.declared.config.Lane.{Lane}
use Rattle.aos_frame.specs.declared.config.Lane.TheVariants.{Directives, Data}
use Rattle.mpdu.specs.Packing.{flush_of}
use Rattle.link_stack.specs.Downward.{lane_down, packing}
use Rattle.cfdp_directives.specs.declared.user.handler.Handler.TheVariants.{Ignore}
use Rattle.cfdp_timers.specs.declared.kind.Kind.{Kind}
use Rattle.cfdp_timers.specs.declared.kind.Kind.TheVariants.{Inactivity}
use Rattle.cfdp_timers.specs.Due.{is_due}
use Rattle.cfdp_entity.specs.Table.{record_of}
use Rattle.cfdp_station.specs.Station.{StationState}
use Rattle.station_pair.specs.declared.side.Side.{Side}
use Rattle.station_pair.specs.declared.side.Side.TheVariants.{One, Two}
use Rattle.station_pair.specs.Stations.{other}
use Rattle.link_sim.specs.Between.{AreSpelled, Pdu, of_id}
use Rattle.link_sim.specs.declared.event.AcceptedPut.{AcceptedPut}
use Rattle.link_sim.specs.declared.event.Applied.TheVariants as did
use Rattle.link_sim.specs.declared.event.Event.TheVariants as event
use Rattle.link_sim.specs.OneWay.{on_way}
use Rattle.link_sim.specs.Settling.{IsOfSettling, KeepsAll, all_shortages}
use Rattle.link_sim.specs.World.State.{LinkState, WorldState, arriving_from, entity_at, lane_from, on_way_from, station_at, way_from}
use Rattle.link_sim.proofs.Clean.Ends.{no-pdus}
use Rattle.link_sim.proofs.Found.Ends.{none-arrive}
use Rattle.link_sim.proofs.Lanes.Each.{lane-seen}
use Rattle.link_sim.proofs.Lanes.Joined.{lanes-same}
use Rattle.link_sim.proofs.OnWay.Pdus.{on-way-settled}
use Rattle.cfdp_port.specs.Calls.{WireCall}
use Rattle.cfdp_port.specs.Pair.{PairState}
use Rattle.cfdp_port.proofs.GainLemmas.{GoesOnLaws}
use Rattle.ports_in_order.specs.InOrder.{Passage}
use Rattle.ports_in_order.proofs.OrderLemmas.{TurnsIn, turn_stood}
use Rattle.outages.specs.Outage.{Happening}
use Rattle.outages.specs.Spared.{AreSparing, GetsThrough, IsQuiet, IsUndue, NothingDueIn}
use Rattle.outages.specs.Tries.{IsCalm, time_told}
use Rattle.outages.proofs.Rising.{RiseAll, first-keeps, rise-both, then-keeps, tick-rises}
use Rattle.outages.proofs.Tracking.{IsReached}
use Rattle.outages_by_turns.specs.Turns.{Turn, expires_in, in_world, then_pair}
use Rattle.outages_by_turns.specs.Whole.{AreWhole, GetsThroughIn, IsIdle, LosesNothing, passed_whole}
use Rattle.outages_by_turns.proofs.Points.{AreFewer, NoneWaits, Point, Stand, Turned, whole, world}
use Rattle.outages_by_turns.proofs.Segments.{Spared, spared-both, spared-none, spared-reach, spared-tick}

module _ {W : Type 0} (Steps : W → WireCall → W → Type 0) (laws : GoesOnLaws) (first : WorldState) (put : AcceptedPut) where
  abbrev P : PairState W → Passage → Type 0
  P p passed = Point Steps laws first put p passed

  abbrev at : (p : PairState W) (passed : Passage) → P p passed → WorldState
  at p passed x = world Steps laws first put p passed x

  -- ---- it is quiet
  module _ (p : PairState W) (passed : Passage) (x : P p passed) (r : IsReached (at p passed x)) (none : NoneWaits Steps laws first put passed) (idle : IsIdle put p) where
    abbrev w : WorldState
    w = at p passed x

    due : (s : Side) → NothingDueIn (record_of put.id (entity_at s w).table.records)
    due One = idle.due One
    due Two = idle.due Two

    filled : (s : Side) (l : Lane) → flush_of (packing (lane_down l (station_at s w).down)) ≡ []
    filled One = idle.filled One
    filled Two = idle.filled Two

    taken : (s : Side) (l : Lane) → length (lane_from s l w).frames ≤ length (lane_from s l w).marks
    taken One l = (
        let frames : length (lane_from One l w).frames ≡ length (passed.from_one l) = ap (λ (k : LinkState). length k.frames) (lane-seen l x.at.k) ∙ ap (λ (ys : List (List ℕ)). length ys) (x.at.from_one l) in
        let marks : length (lane_from One l w).marks ≡ passed.taken_one l = ap (λ (k : LinkState). length k.marks) (lane-seen l x.at.k) ∙ x.at.are.marks l in
        let same : passed.taken_one l ≡ length (passed.from_one l) = none.one l in
        omega (arith, frames, marks, same))
    taken Two l = (
        let frames : length (lane_from Two l w).frames ≡ length (passed.from_two l) = ap (λ (k : LinkState). length k.frames) (lane-seen l x.at.m) ∙ ap (λ (ys : List (List ℕ)). length ys) (x.at.from_two l) in
        let marks : length (lane_from Two l w).marks ≡ passed.taken_two l = ap (λ (k : LinkState). length k.marks) (lane-seen l x.at.m) ∙ x.at.marks l in
        let same : passed.taken_two l ≡ length (passed.from_two l) = none.two l in
        omega (arith, frames, marks, same))

    none-on-way : (s : Side) → on_way_from s w ≡ []
    none-on-way s = lanes-same (λ l. []) (λ l. on_way (way_from s l w)) (λ l. on-way-settled (way_from s l w) ((r.sound s).ways l) (r.rested s l) (filled s l) (taken s l))

    pub idle-quiet : IsQuiet put.id w
    idle-quiet = record {
      due = due;
      on_way = λ s pdus spelled. ap (of_id put.id) (no-pdus pdus (subst (λ (l : List (List ℕ)). AreSpelled l pdus) (none-arrive s w (r.sound s).ways (none-on-way s)) spelled));
    }

  -- ---- a turn in which nothing is lost
  module _ (now : ℕ) (old new : PairState W) (w v : WorldState) (one : w.one ≡ old.one.station) (t : TurnsIn Steps IsOfSettling now old.two.station w v) where
    abbrev Undue : StationState → Type 0
    Undue y = (k : Kind) → is_due y.entity.state.table.armed (max y.entity.state.table.now now) (put.id, k) ≡ false

    undue-one : ((k : Kind) → expires_in put One k now old ≡ false) → IsUndue put.id One now w
    undue-one none = subst Undue (sym one) none

    undue-two : ((k : Kind) → expires_in put Two k now old ≡ false) → IsUndue put.id Two now t.mid
    undue-two none = subst Undue (sym t.is_two) none

    sent : Spared put.id t.told_one t.mid
    sent = spared-reach put.id t.told_one t.mid t.sent_one

    rest : Spared put.id t.told_two v
    rest = spared-reach put.id t.told_two v t.rest

    first-part : ((k : Kind) → expires_in put One k now old ≡ false) → Spared put.id w t.mid
    first-part none = spared-both put.id w t.told_one t.mid (spared-tick put.id One now w t.told_one t.tick_one (undue-one none)) sent

    second-part : ((k : Kind) → expires_in put Two k now old ≡ false) → Spared put.id t.mid v
    second-part none = spared-both put.id t.mid t.told_two v (spared-tick put.id Two now t.mid t.told_two t.tick_two (undue-two none)) rest

    pub turn-spared : ((s : Side) (k : Kind) → expires_in put s k now old ≡ false) → Spared put.id w v
    turn-spared none = spared-both put.id w t.mid v (first-part (λ k. none One k)) (second-part (λ k. none Two k))

    -- ---- a timer expires in it
    module _ (end : WorldState) (later : Spared put.id v end) (kind : Kind) (answerable : kind ≢ Inactivity) (quiet : IsQuiet put.id w) (quiet_then : IsQuiet put.id end) where
      abbrev Due : StationState → Type 0
      Due y = is_due y.entity.state.table.armed (max y.entity.state.table.now now) (put.id, kind) ≡ true

      abbrev CalmAt : StationState → Type 0
      CalmAt y = (y.entity.state.config.policy.handlers.inactivity ≡ Ignore) ⊎ (is_due y.entity.state.table.armed (max y.entity.state.table.now now) (put.id, Inactivity) ≡ false)

      -- at the first station
      after-one : ((k : Kind) → expires_in put Two k now old ≡ false) → Spared put.id t.told_one end
      after-one alone = spared-both put.id t.told_one t.mid end sent (spared-both put.id t.mid v end (second-part alone) later)

      tick-one : RiseAll w t.told_one
      tick-one = tick-rises One w t.told_one now t.tick_one

      pub gets-one : expires_in put One kind now old ≡ true → IsCalm put.id (in_world put old) (event.Tick One now) → ((k : Kind) → expires_in put Two k now old ≡ false) →
          KeepsAll (all_shortages w) (all_shortages end) → GetsThrough put.id w end
      gets-one expires calm alone keeps =
          let spared : Spared put.id t.told_one end = after-one alone in
          let hs = spared.happened (then-keeps w t.told_one end tick-one spared.rises keeps) in
          record {
            rests = quiet;
            before = [];
            held = w;
            spare_before = refl;
            side = One;
            now = now;
            ticked = t.told_one;
            ticks = t.tick_one;
            calm = subst CalmAt (sym one) calm;
            short_of_nothing = first-keeps w t.told_one end tick-one spared.rises keeps;
            kind = kind;
            answerable = answerable;
            expires = subst Due (sym one) expires;
            rest = hs.0;
            spare = hs.1;
            quiet = quiet_then;
          }

      -- at the second one
      after-two : Spared put.id t.told_two end
      after-two = spared-both put.id t.told_two v end rest later

      tick-two : RiseAll t.mid t.told_two
      tick-two = tick-rises Two t.mid t.told_two now t.tick_two

      rise-two : RiseAll t.mid end
      rise-two = rise-both t.mid t.told_two end tick-two after-two.rises

      pub gets-two : expires_in put Two kind now old ≡ true → IsCalm put.id (in_world put old) (event.Tick Two now) → ((k : Kind) → expires_in put One k now old ≡ false) →
          KeepsAll (all_shortages w) (all_shortages end) → GetsThrough put.id w end
      gets-two expires calm alone keeps =
          let early : Spared put.id w t.mid = first-part alone in
          let before = early.happened (first-keeps w t.mid end early.rises rise-two keeps) in
          let keeps-mid : KeepsAll (all_shortages t.mid) (all_shortages end) = then-keeps w t.mid end early.rises rise-two keeps in
          let hs = after-two.happened (then-keeps t.mid t.told_two end tick-two after-two.rises keeps-mid) in
          record {
            rests = quiet;
            before = before.0;
            held = t.mid;
            spare_before = before.1;
            side = Two;
            now = now;
            ticked = t.told_two;
            ticks = t.tick_two;
            calm = subst CalmAt (sym t.is_two) calm;
            short_of_nothing = first-keeps t.mid t.told_two end tick-two after-two.rises keeps-mid;
            kind = kind;
            answerable = answerable;
            expires = subst Due (sym t.is_two) expires;
            rest = hs.0;
            spare = hs.1;
            quiet = quiet_then;
          }

      rises-one : ((k : Kind) → expires_in put Two k now old ≡ false) → RiseAll w end
      rises-one alone = rise-both w t.told_one end tick-one (after-one alone).rises

      rises-two : ((k : Kind) → expires_in put One k now old ≡ false) → RiseAll w end
      rises-two alone = rise-both w t.mid end (first-part alone).rises rise-two

      pub gets : (s : Side) → expires_in put s kind now old ≡ true → IsCalm put.id (in_world put old) (event.Tick s now) → ((k : Kind) → expires_in put (other s) k now old ≡ false) →
          RiseAll w end × (KeepsAll (all_shortages w) (all_shortages end) → GetsThrough put.id w end)
      gets One expires calm alone = (rises-one alone, gets-one expires calm alone)
      gets Two expires calm alone = (rises-two alone, gets-two expires calm alone)
