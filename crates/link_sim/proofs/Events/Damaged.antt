-- A damaged frame that comes to a station in the place of a frame of the other one is a step of the
-- world.
use Rattle.std.proofs.Common.{◌≡◌, ℕ, ◌<◌, ◌≤◌, List, [], length, Some, refl, sym, ap, subst, ◌∙◌}
use Rattle.aos_frame.specs.Frame.{frame_fault, lane_channel, other_lane}
use Rattle.aos_frame.specs.declared.config.ChannelConfig.{ChannelConfig}
use Rattle.aos_frame.specs.declared.config.Lane.{Lane}
use Rattle.aos_frame.specs.declared.config.LinkConfig.{LinkConfig}
use Rattle.aos_frame.specs.declared.error.FrameError.TheVariants.{Damaged}
use Rattle.link_stack.specs.Downward.{DownState, lane_down}
use Rattle.link_stack.specs.Upward.{LinkReceiverState, lane_of, lane_up}
use Rattle.cfdp_station.specs.Station.{StationState}
use Rattle.cfdp_station.specs.Taking.{HearsAll, TakesFrame}
use Rattle.link_sim.specs.declared.event.AcceptedPut.{AcceptedPut}
use Rattle.link_sim.specs.declared.event.Applied.{Applied}
use Rattle.link_sim.specs.declared.event.Applied.TheVariants as did
use Rattle.station_pair.specs.declared.refusal.Refusal.TheVariants as refusal
use Rattle.station_pair.specs.declared.side.Side.TheVariants.{One, Two}
use Rattle.link_sim.specs.AtStation.{AreCarried, AreSetUp, DamagesAt}
use Rattle.link_sim.specs.FrameLink.{FrameLinksState, lane_of_links, most_struck}
use Rattle.link_sim.specs.OneWay.{OneWayState, IsOneWay, SendsNone, one_way}
use Rattle.link_sim.specs.World.State.{WorldState, way_from}
use Rattle.link_sim.specs.World.Steps.{ComesDamaged, Damages, LosesFrame, StrikesFrame, counts_damaged}
use Rattle.link_sim.proofs.Events.AtStations.{struck_all}
use Rattle.link_sim.proofs.Events.InWorlds.{as-seen, same-links, strikes-one, strikes-two, way-on, world_of}
use Rattle.link_sim.proofs.Lanes.Each.{either-lane}
use Rattle.link_sim.proofs.Lanes.Ways.{strikes-loses}
use Rattle.link_sim.proofs.Ways.Damaged.{counts-more, damaged-lanes, takes-damaged}
use Rattle.link_sim.proofs.Ways.Pulling.{pulled_more, pulled_none}

-- ---- the station that takes it
module _ (l : Lane) (octets : List ℕ) (link : LinkConfig) (old new : StationState) (set_up : AreSetUp link old.up) (damaged : frame_fault octets (lane_channel l link) ≡ Some Damaged)
    (takes : TakesFrame octets old new) where
  -- the lane that takes it, which its header names
  abbrev m : Lane
  m = lane_of old.up octets

  dropped : (lane_up m new.up ≡ counts_damaged (lane_up m old.up)) × (takes.pdus ≡ [])
  dropped = takes-damaged octets (lane_up m old.up) (lane_up m new.up) takes.pdus
      (subst (λ (c : ChannelConfig). frame_fault octets c ≡ Some Damaged) (sym (set_up m)) (damaged-lanes octets link l m damaged)) takes.given

  pub up-counts : lane_up m new.up ≡ counts_damaged (lane_up m old.up)
  up-counts = dropped.0

  pub entity-same : new.entity ≡ old.entity
  entity-same = subst (λ (pdus : List (List ℕ)). HearsAll pdus old.entity new.entity) dropped.1 takes.heard

  -- each lane between its ends, which delivers no more by it
  pub lanes-count : (k : Lane) (w : OneWayState) → IsOneWay w → w.up ≡ lane_up k old.up → SendsNone w (record w { up = lane_up k new.up })
  lanes-count k = either-lane (λ x. (w : OneWayState) → IsOneWay w → w.up ≡ lane_up x old.up → SendsNone w (record w { up = lane_up x new.up })) m
      (λ w is e. subst (λ (u : LinkReceiverState). SendsNone w (record w { up = u })) (ap counts_damaged e ∙ sym up-counts) (counts-more w is))
      (λ w is e. subst (λ (u : LinkReceiverState). SendsNone w (record w { up = u })) (e ∙ sym takes.other) (pulled_none w is)) k

  set-up-kept : AreSetUp link new.up
  set-up-kept = either-lane (λ k. (lane_up k new.up).link ≡ lane_channel k link) m
      (ap (λ (u : LinkReceiverState). u.link) up-counts ∙ set_up m) (ap (λ (u : LinkReceiverState). u.link) takes.other ∙ set_up (other_lane m))

  carried-kept : (d : DownState) (n : FrameLinksState) → AreCarried d n old.up → AreCarried d n new.up
  carried-kept d n is k =
      let c = is k in
      let s = lanes-count k (one_way (lane_down k d) (lane_of_links k n) (lane_up k old.up)) c.way refl in
      record { way = s.way; rested = record { none_waits = c.rested.none_waits; filled = c.rested.filled }; fits = c.fits }

-- ---- what stays true of both ends
module _ (l : Lane) (octets : List ℕ) (link : LinkConfig) (k n : FrameLinksState) (old new : StationState) (set_up : AreSetUp link old.up)
    (other : lane_of_links (other_lane l) n ≡ lane_of_links (other_lane l) k) where
  both-same : (d : DownState) → lane_of_links l n ≡ lane_of_links l k → new ≡ old → AreCarried d k old.up → AreCarried d n new.up
  both-same d here stays is =
      subst (λ (x : FrameLinksState). AreCarried d x new.up) (sym (same-links l k n here other)) (subst (λ (s : StationState). AreCarried d k s.up) (sym stays) is)

  pub damaged_all : (r : Applied) (d : DownState) → DamagesAt r (lane_channel l link) octets (lane_of_links l k) (lane_of_links l n) old new → AreCarried d k old.up → AreCarried d n new.up
  damaged_all did.Applied d h is = carried-kept l octets link old new set_up h.damaged h.takes d n (struck_all l did.Applied d k n old.up h.strikes other is)
  damaged_all did.Nothing d h is = both-same d h.1 h.2 is
  damaged_all (did.Refused (refusal.Put by)) d h is = absurd h
  damaged_all (did.Refused (refusal.Call by)) d h is = absurd h
  damaged_all (did.Refused refusal.LossRunTooLong) d h is = both-same d h.0.same h.1 is
  damaged_all (did.Refused refusal.NotDamaged) d h is = both-same d h.same_link h.same is

  pub damaged-down : (r : Applied) → DamagesAt r (lane_channel l link) octets (lane_of_links l k) (lane_of_links l n) old new → new.down ≡ old.down
  damaged-down did.Applied h = h.takes.down
  damaged-down did.Nothing h = ap (λ (s : StationState). s.down) h.2
  damaged-down (did.Refused (refusal.Put by)) h = absurd h
  damaged-down (did.Refused (refusal.Call by)) h = absurd h
  damaged-down (did.Refused refusal.LossRunTooLong) h = ap (λ (s : StationState). s.down) h.1
  damaged-down (did.Refused refusal.NotDamaged) h = ap (λ (s : StationState). s.down) h.same

  still-set-up : new ≡ old → AreSetUp link new.up
  still-set-up stays = subst (λ (s : StationState). AreSetUp link s.up) (sym stays) set_up

  pub damaged-set-up : (r : Applied) → DamagesAt r (lane_channel l link) octets (lane_of_links l k) (lane_of_links l n) old new → AreSetUp link new.up
  damaged-set-up did.Applied h = set-up-kept l octets link old new set_up h.damaged h.takes
  damaged-set-up did.Nothing h = still-set-up h.2
  damaged-set-up (did.Refused (refusal.Put by)) h = absurd h
  damaged-set-up (did.Refused (refusal.Call by)) h = absurd h
  damaged-set-up (did.Refused refusal.LossRunTooLong) h = still-set-up h.1
  damaged-set-up (did.Refused refusal.NotDamaged) h = still-set-up h.same

-- ---- the step
module _ (l : Lane) (octets : List ℕ) (link : LinkConfig) (k n m : FrameLinksState) (old new a : StationState) (puts : List AcceptedPut) (ticks : ℕ) (set_up : AreSetUp link old.up)
    (other : lane_of_links (other_lane l) n ≡ lane_of_links (other_lane l) k) where
  pub damages-one : (r : Applied) → DamagesAt r (lane_channel l link) octets (lane_of_links l k) (lane_of_links l n) old new → AreCarried a.down k old.up →
      Damages r One l octets (world_of a old k m puts ticks) (world_of a new n m puts ticks)
  damages-one did.Applied h is =
      let before : WorldState = world_of a old k m puts ticks in
      let mid : WorldState = world_of a old n m puts ticks in
      let after : WorldState = world_of a new n m puts ticks in
      let struck : StrikesFrame One l before mid = strikes-one l a old k n m puts ticks other did.Applied h.strikes (is l) in
      let lost : LosesFrame One l before mid = strikes-loses One l before mid (λ x. way-on x (lane_down x a.down) k (lane_up x old.up) (is x).way) struck in
      record {
        damaged = subst (λ (c : ChannelConfig). ComesDamaged octets c) (sym (set_up l)) h.damaged;
        loses = record {
          waits = struck.waits;
          few = struck.few;
          link = struck.link;
          sends = λ x. pulled_more (way_from One x before) (way_from One x mid) (way_from One x after) (lost.sends x)
              (lanes-count l octets link old new set_up h.damaged h.takes x (way_from One x mid) (lost.sends x).way refl);
          other_link = struck.other_link;
          station = refl;
          entity = entity-same l octets link old new set_up h.damaged h.takes;
          down = h.takes.down;
          back = refl;
          counts = record { puts = refl; ticks = refl };
        };
        takes = h.takes;
        counted = up-counts l octets link old new set_up h.damaged h.takes;
        other_up = h.takes.other;
      }
  damages-one did.Nothing h is =
      let links : n ≡ k = same-links l k n h.1 other in
      (as-seen (λ y. length y.frames ≤ length y.marks) l k h.0, λ i. world_of a (h.2 i) (links i) m puts ticks)
  damages-one (did.Refused (refusal.Put by)) h is = absurd h
  damages-one (did.Refused (refusal.Call by)) h is = absurd h
  damages-one (did.Refused refusal.LossRunTooLong) h is =
      let links : n ≡ k = same-links l k n h.0.same other in
      record {
        waits = as-seen (λ x. length x.marks < length x.frames) l k h.0.waits;
        run = as-seen (λ x. x.run ≡ most_struck) l k h.0.run;
        same = λ i. world_of a (h.1 i) (links i) m puts ticks;
      }
  damages-one (did.Refused refusal.NotDamaged) h is =
      let links : n ≡ k = same-links l k n h.same_link other in
      record {
        waits = as-seen (λ x. length x.marks < length x.frames) l k h.waits;
        differs = λ comes. h.differs (subst (λ (c : ChannelConfig). ComesDamaged octets c) (set_up l) comes);
        same = λ i. world_of a (h.same i) (links i) m puts ticks;
      }

  pub damages-two : (r : Applied) → DamagesAt r (lane_channel l link) octets (lane_of_links l k) (lane_of_links l n) old new → AreCarried a.down k old.up →
      Damages r Two l octets (world_of old a m k puts ticks) (world_of new a m n puts ticks)
  damages-two did.Applied h is =
      let before : WorldState = world_of old a m k puts ticks in
      let mid : WorldState = world_of old a m n puts ticks in
      let after : WorldState = world_of new a m n puts ticks in
      let struck : StrikesFrame Two l before mid = strikes-two l old a k n m puts ticks other did.Applied h.strikes (is l) in
      let lost : LosesFrame Two l before mid = strikes-loses Two l before mid (λ x. way-on x (lane_down x a.down) k (lane_up x old.up) (is x).way) struck in
      record {
        damaged = subst (λ (c : ChannelConfig). ComesDamaged octets c) (sym (set_up l)) h.damaged;
        loses = record {
          waits = struck.waits;
          few = struck.few;
          link = struck.link;
          sends = λ x. pulled_more (way_from Two x before) (way_from Two x mid) (way_from Two x after) (lost.sends x)
              (lanes-count l octets link old new set_up h.damaged h.takes x (way_from Two x mid) (lost.sends x).way refl);
          other_link = struck.other_link;
          station = refl;
          entity = entity-same l octets link old new set_up h.damaged h.takes;
          down = h.takes.down;
          back = refl;
          counts = record { puts = refl; ticks = refl };
        };
        takes = h.takes;
        counted = up-counts l octets link old new set_up h.damaged h.takes;
        other_up = h.takes.other;
      }
  damages-two did.Nothing h is =
      let links : n ≡ k = same-links l k n h.1 other in
      (as-seen (λ y. length y.frames ≤ length y.marks) l k h.0, λ i. world_of (h.2 i) a m (links i) puts ticks)
  damages-two (did.Refused (refusal.Put by)) h is = absurd h
  damages-two (did.Refused (refusal.Call by)) h is = absurd h
  damages-two (did.Refused refusal.LossRunTooLong) h is =
      let links : n ≡ k = same-links l k n h.0.same other in
      record {
        waits = as-seen (λ x. length x.marks < length x.frames) l k h.0.waits;
        run = as-seen (λ x. x.run ≡ most_struck) l k h.0.run;
        same = λ i. world_of (h.1 i) a m (links i) puts ticks;
      }
  damages-two (did.Refused refusal.NotDamaged) h is =
      let links : n ≡ k = same-links l k n h.same_link other in
      record {
        waits = as-seen (λ x. length x.marks < length x.frames) l k h.waits;
        differs = λ comes. h.differs (subst (λ (c : ChannelConfig). ComesDamaged octets c) (set_up l) comes);
        same = λ i. world_of (h.same i) a m (links i) puts ticks;
      }
