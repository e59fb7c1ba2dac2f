-- What an event does to one station and to both lanes of what it sent is a step of the world.
use Rattle.std.proofs.Common.{◌≡◌, ℕ, ◌+◌, ◌<◌, ◌≤◌, Bool, true, false, List, [], ◌∷◌, ◌++◌, length, refl, sym, ap, subst, ◌∙◌, inl, inr, MatchOption, Option, Some, None, Result, Ok, Err}
use Rattle.std.specs.Result.{IfOk, OnErr}
use Rattle.aos_frame.specs.Frame.{other_lane}
use Rattle.aos_frame.specs.declared.config.Lane.{Lane}
use Rattle.aos_frame.specs.declared.config.Lane.TheVariants.{Directives, Data}
use Rattle.mpdu.specs.Packing.{flush_of}
use Rattle.link_stack.specs.Downward.{LinkSenderState, lane_down, packing}
use Rattle.link_stack.specs.Upward.{LinkReceiverState, lane_up}
use Rattle.cfdp_station.specs.Link.{next_lane}
use Rattle.cfdp_station.specs.Station.{StationState}
use Rattle.cfdp_station.specs.Taking.{GivesPdus}
use Rattle.station_pair.specs.declared.side.Side.{Side}
use Rattle.station_pair.specs.declared.side.Side.TheVariants.{One, Two}
use Rattle.link_sim.specs.declared.event.AcceptedPut.{AcceptedPut}
use Rattle.std.specs.declared.alloc.AllocError.{AllocError}
use Rattle.link_sim.specs.declared.event.Event.{Event}
use Rattle.link_sim.specs.Calls.{TriesEvent}
use Rattle.link_sim.specs.declared.event.Applied.{Applied}
use Rattle.link_sim.specs.declared.event.Applied.TheVariants as did
use Rattle.station_pair.specs.declared.refusal.Refusal.TheVariants as refusal
use Rattle.link_sim.specs.FrameLink.{FrameLinkState, FrameLinksState, lane_of_links, most_struck}
use Rattle.link_sim.specs.AtStation.{AreCarried, AreSameLinks, AreSameMarks, FailsAt, FlushesAt, FrameArrivesAt, HearsAt, IsSameLink, KeepsAt, PollsAt, SendsOneAt, StrikesAt}
use Rattle.link_sim.specs.OneWay.{HearsMore, IsCarried, IsOneWay, SendsMore, SendsNone, one_way}
use Rattle.link_sim.specs.World.State.{AreWays, LanesState, LinkState, WorldState, lane_from, link_from, no_lanes, on_lane, seen_link, seen_links, way}
use Rattle.link_sim.specs.World.Steps.{Delivers, FailsSource, Flushes, KeepsMarks, NoneWaits, Polls, SendsOne, Steps, Strikes, WantsMemory, marked, oldest_of}
use Rattle.link_sim.proofs.Events.AtStations.{struck_at}
use Rattle.link_sim.proofs.Lanes.Each.{each-lane, either-lane, lane-seen}
use Rattle.link_sim.proofs.Ways.Carried.{same_way}

-- both stations and links
abbrev pub world_of : (a b : StationState) → (k m : FrameLinksState) → List AcceptedPut → ℕ → WorldState
world_of a b k m puts ticks = record { one = a; two = b; from_one = seen_links k; from_two = seen_links m; puts = puts; ticks = ticks }

-- ---- answers
-- what an event comes to that may find no memory
pub tries : (Did : Applied → Type 0) (Kept : Type 0) (e : Event) (r : Result Applied AllocError) (old new : WorldState) → ((x : Applied) → Did x → Steps e x old new) → (Kept → new ≡ old) →
    WantsMemory e → IfOk r Did → OnErr r Kept → TriesEvent e r old new
tries Did Kept e (Ok x) old new step same wants did kept = record { steps = step x did; err = tt; lacks = tt }
tries Did Kept e (Err y) old new step same wants did kept = record { steps = tt; err = same kept; lacks = wants }

-- ---- a lane, as it is seen
pub as-seen : (P : LinkState → Type 0) (l : Lane) (k : FrameLinksState) → P (seen_link (lane_of_links l k)) → P (on_lane l (seen_links k))
as-seen P l k h = subst P (sym (lane-seen l k)) h

same-lane : (l : Lane) (k n : FrameLinksState) → lane_of_links l n ≡ lane_of_links l k → on_lane l (seen_links n) ≡ on_lane l (seen_links k)
same-lane l k n e = lane-seen l n ∙ ap seen_link e ∙ sym (lane-seen l k)

-- both lanes are as they were
pub same-links : (l : Lane) (k n : FrameLinksState) → lane_of_links l n ≡ lane_of_links l k → lane_of_links (other_lane l) n ≡ lane_of_links (other_lane l) k → n ≡ k
same-links l k n here there =
    let all : (m : Lane) → lane_of_links m n ≡ lane_of_links m k = either-lane (λ m. lane_of_links m n ≡ lane_of_links m k) l here there in
    let d : n.directives ≡ k.directives = all Directives in
    let f : n.file_data ≡ k.file_data = all Data in
    λ i. record { directives = d i; file_data = f i }

taken-seen : (l : Lane) (k n : FrameLinksState) (mark : Bool) (run : ℕ) →
    lane_of_links l n ≡ record (lane_of_links l k) { marks = (lane_of_links l k).marks ++ mark ∷ []; run = run } → on_lane l (seen_links n) ≡ marked mark run (on_lane l (seen_links k))
taken-seen l k n mark run e = lane-seen l n ∙ ap seen_link e ∙ ap (marked mark run) (sym (lane-seen l k))

-- ---- frames that are lost
adds-none-seen : (l : Lane) (d : LinkSenderState) (k n : FrameLinksState) (u : LinkReceiverState) → SendsNone (one_way d (lane_of_links l k) u) (one_way d (lane_of_links l n) u) →
    SendsNone (way d (on_lane l (seen_links k)) u) (way d (on_lane l (seen_links n)) u)
adds-none-seen Directives d k n u h = h
adds-none-seen Data d k n u h = h

module _ (l : Lane) (a b : StationState) (k n m : FrameLinksState) (puts : List AcceptedPut) (ticks : ℕ) (other : lane_of_links (other_lane l) n ≡ lane_of_links (other_lane l) k) where
  pub strikes-one : (r : Applied) → StrikesAt r (lane_of_links l k) (lane_of_links l n) → IsCarried (lane_down l a.down) (lane_of_links l k) (lane_up l b.up) →
      Strikes r One l (world_of a b k m puts ticks) (world_of a b n m puts ticks)
  strikes-one did.Applied h is = record {
    waits = as-seen (λ x. length x.marks < length x.frames) l k h.waits;
    few = as-seen (λ x. x.run < most_struck) l k h.few;
    link = taken-seen l k n false ((lane_of_links l k).run + 1) h.marked ∙ ap (λ (x : LinkState). marked false (x.run + 1) (on_lane l (seen_links k))) (sym (lane-seen l k));
    sends = adds-none-seen l (lane_down l a.down) k n (lane_up l b.up) (struck_at did.Applied (lane_down l a.down) (lane_of_links l k) (lane_of_links l n) (lane_up l b.up) h is).1;
    other_link = same-lane (other_lane l) k n other;
    station = refl;
    spares = record { station = refl; link = refl };
    counts = record { puts = refl; ticks = refl };
  }
  strikes-one did.Nothing h is = (
    as-seen (λ x. length x.frames ≤ length x.marks) l k h.0,
    ap (λ (x : FrameLinksState). world_of a b x m puts ticks) (same-links l k n h.1 other),
  )
  strikes-one (did.Refused (refusal.Put by)) h is = absurd h
  strikes-one (did.Refused (refusal.Call by)) h is = absurd h
  strikes-one (did.Refused refusal.LossRunTooLong) h is = record {
    waits = as-seen (λ x. length x.marks < length x.frames) l k h.waits;
    run = as-seen (λ x. x.run ≡ most_struck) l k h.run;
    same = ap (λ (x : FrameLinksState). world_of a b x m puts ticks) (same-links l k n h.same other);
  }
  strikes-one (did.Refused refusal.NotDamaged) h is = absurd h

module _ (l : Lane) (a b : StationState) (k n m : FrameLinksState) (puts : List AcceptedPut) (ticks : ℕ) (other : lane_of_links (other_lane l) n ≡ lane_of_links (other_lane l) k) where
  pub strikes-two : (r : Applied) → StrikesAt r (lane_of_links l k) (lane_of_links l n) → IsCarried (lane_down l b.down) (lane_of_links l k) (lane_up l a.up) →
      Strikes r Two l (world_of a b m k puts ticks) (world_of a b m n puts ticks)
  strikes-two did.Applied h is = record {
    waits = as-seen (λ x. length x.marks < length x.frames) l k h.waits;
    few = as-seen (λ x. x.run < most_struck) l k h.few;
    link = taken-seen l k n false ((lane_of_links l k).run + 1) h.marked ∙ ap (λ (x : LinkState). marked false (x.run + 1) (on_lane l (seen_links k))) (sym (lane-seen l k));
    sends = adds-none-seen l (lane_down l b.down) k n (lane_up l a.up) (struck_at did.Applied (lane_down l b.down) (lane_of_links l k) (lane_of_links l n) (lane_up l a.up) h is).1;
    other_link = same-lane (other_lane l) k n other;
    station = refl;
    spares = record { station = refl; link = refl };
    counts = record { puts = refl; ticks = refl };
  }
  strikes-two did.Nothing h is = (
    as-seen (λ x. length x.frames ≤ length x.marks) l k h.0,
    ap (λ (x : FrameLinksState). world_of a b m x puts ticks) (same-links l k n h.1 other),
  )
  strikes-two (did.Refused (refusal.Put by)) h is = absurd h
  strikes-two (did.Refused (refusal.Call by)) h is = absurd h
  strikes-two (did.Refused refusal.LossRunTooLong) h is = record {
    waits = as-seen (λ x. length x.marks < length x.frames) l k h.waits;
    run = as-seen (λ x. x.run ≡ most_struck) l k h.run;
    same = ap (λ (x : FrameLinksState). world_of a b m x puts ticks) (same-links l k n h.same other);
  }
  strikes-two (did.Refused refusal.NotDamaged) h is = absurd h

-- ---- frames that arrive
hears-seen : (l : Lane) (d : LinkSenderState) (k n : FrameLinksState) (u v : LinkReceiverState) (given : List (List ℕ)) →
    HearsMore (one_way d (lane_of_links l k) u) (one_way d (lane_of_links l n) v) given → HearsMore (way d (on_lane l (seen_links k)) u) (way d (on_lane l (seen_links n)) v) given
hears-seen Directives d k n u v given h = h
hears-seen Data d k n u v given h = h

module _ (l : Lane) (k n m : FrameLinksState) (old new a : StationState) (puts : List AcceptedPut) (ticks : ℕ) (other : lane_of_links (other_lane l) n ≡ lane_of_links (other_lane l) k)
    (down : new.down ≡ old.down) where
  pub delivers-one : (r : Applied) → FrameArrivesAt r l (lane_of_links l k) (lane_of_links l n) old new → IsCarried (lane_down l a.down) (lane_of_links l k) (lane_up l old.up) →
      Delivers r One l (world_of a old k m puts ticks) (world_of a new n m puts ticks)
  delivers-one did.Applied h is =
      let x : HearsAt l (lane_down l a.down) (lane_of_links l k) (lane_of_links l n) old new = h.hears (lane_down l a.down) is in
      record {
        waits = as-seen (λ y. length y.marks < length y.frames) l k h.waits;
        link = taken-seen l k n true 0 h.marked;
        given = x.given;
        gives = as-seen (λ y. GivesPdus (oldest_of y) (lane_up l old.up) (lane_up l new.up) x.given) l k x.gives;
        hears = hears-seen l (lane_down l a.down) k n (lane_up l old.up) (lane_up l new.up) x.given x.hears;
        heard = x.heard;
        other_up = x.other_up;
        other_link = same-lane (other_lane l) k n other;
        down = down;
        station = refl;
        back = refl;
        counts = record { puts = refl; ticks = refl };
      }
  delivers-one did.Nothing h is =
      let links : n ≡ k = same-links l k n h.1 other in
      let stays : new ≡ old = h.2 in
      (as-seen (λ y. length y.frames ≤ length y.marks) l k h.0, λ i. world_of a (stays i) (links i) m puts ticks)
  delivers-one (did.Refused by) h is = absurd h

module _ (l : Lane) (k n m : FrameLinksState) (old new a : StationState) (puts : List AcceptedPut) (ticks : ℕ) (other : lane_of_links (other_lane l) n ≡ lane_of_links (other_lane l) k)
    (down : new.down ≡ old.down) where
  pub delivers-two : (r : Applied) → FrameArrivesAt r l (lane_of_links l k) (lane_of_links l n) old new → IsCarried (lane_down l a.down) (lane_of_links l k) (lane_up l old.up) →
      Delivers r Two l (world_of old a m k puts ticks) (world_of new a m n puts ticks)
  delivers-two did.Applied h is =
      let x : HearsAt l (lane_down l a.down) (lane_of_links l k) (lane_of_links l n) old new = h.hears (lane_down l a.down) is in
      record {
        waits = as-seen (λ y. length y.marks < length y.frames) l k h.waits;
        link = taken-seen l k n true 0 h.marked;
        given = x.given;
        gives = as-seen (λ y. GivesPdus (oldest_of y) (lane_up l old.up) (lane_up l new.up) x.given) l k x.gives;
        hears = hears-seen l (lane_down l a.down) k n (lane_up l old.up) (lane_up l new.up) x.given x.hears;
        heard = x.heard;
        other_up = x.other_up;
        other_link = same-lane (other_lane l) k n other;
        down = down;
        station = refl;
        back = refl;
        counts = record { puts = refl; ticks = refl };
      }
  delivers-two did.Nothing h is =
      let links : n ≡ k = same-links l k n h.1 other in
      let stays : new ≡ old = h.2 in
      (as-seen (λ y. length y.frames ≤ length y.marks) l k h.0, λ i. world_of (stays i) a m (links i) puts ticks)
  delivers-two (did.Refused by) h is = absurd h

-- ---- what is sent
sends-seen : (l : Lane) (d e : LinkSenderState) (k n : FrameLinksState) (u : LinkReceiverState) (qs texts : List (List ℕ)) →
    SendsMore (one_way d (lane_of_links l k) u) (one_way e (lane_of_links l n) u) qs texts → SendsMore (way d (on_lane l (seen_links k)) u) (way e (on_lane l (seen_links n)) u) qs texts
sends-seen Directives d e k n u qs texts h = h
sends-seen Data d e k n u qs texts h = h

way-seen : (l : Lane) (d e : LinkSenderState) (k n : FrameLinksState) (u : LinkReceiverState) → e ≡ d → IsSameLink (lane_of_links l k) (lane_of_links l n) →
    way e (on_lane l (seen_links n)) u ≡ way d (on_lane l (seen_links k)) u
way-seen Directives d e k n u down same = ap (λ (x : LinkSenderState). way x (seen_link n.directives) u) down ∙ same_way d k.directives n.directives u same
way-seen Data d e k n u down same = ap (λ (x : LinkSenderState). way x (seen_link n.file_data) u) down ∙ same_way d k.file_data n.file_data u same

grown-seen : (l : Lane) (k n : FrameLinksState) → length (lane_of_links l k).frames < length (lane_of_links l n).frames →
    length (on_lane l (seen_links k)).frames < length (on_lane l (seen_links n)).frames
grown-seen Directives k n h = h
grown-seen Data k n h = h

same-link : (k n : FrameLinkState) → IsSameLink k n → seen_link n ≡ seen_link k
same-link k n (frames, marks, run, len) = λ i. record { frames = frames i; marks = marks i; run = run i }

-- links that have more buffers are seen the same
pub same-seen : (k n : FrameLinksState) → AreSameLinks k n → seen_links n ≡ seen_links k
same-seen k n same =
    let d = same-link k.directives n.directives (same Directives) in
    let f = same-link k.file_data n.file_data (same Data) in
    λ i. record { directives = d i; file_data = f i }

module _ (a c b : StationState) (k n m : FrameLinksState) (puts : List AcceptedPut) (ticks : ℕ) where
  marks-one : c.up ≡ a.up → AreSameMarks k n → KeepsMarks One (world_of a b k m puts ticks) (world_of c b n m puts ticks)
  marks-one up same = record {
    up = up;
    marks = each-lane (λ l. (on_lane l (seen_links n)).marks ≡ (on_lane l (seen_links k)).marks) (same Directives).0 (same Data).0;
    run = each-lane (λ l. (on_lane l (seen_links n)).run ≡ (on_lane l (seen_links k)).run) (same Directives).1 (same Data).1;
    spares = record { station = refl; link = refl };
    counts = record { puts = refl; ticks = refl };
  }

  pub keeps-one : KeepsAt a c k n → world_of c b n m puts ticks ≡ world_of a b k m puts ticks
  keeps-one h = let seen = same-seen k n h.1 in λ i. record { one = h.0 i; two = b; from_one = seen i; from_two = seen_links m; puts = puts; ticks = ticks }

  pub polls-one : (r : Applied) → PollsAt r a c k n → AreCarried a.down k b.up → c.up ≡ a.up → AreSameMarks k n → Polls r One (world_of a b k m puts ticks) (world_of c b n m puts ticks)
  polls-one did.Applied h is up same = elim h [ inl s ↦ inl (sent s) | inr s ↦ inr (failed s) ]
    where
      sent : SendsOneAt a c k n → SendsOne One (world_of a b k m puts ticks) (world_of c b n m puts ticks)
      sent s =
          let l : Lane = next_lane a.entity.state in
          record {
            served = s.served;
            spells = s.spells;
            failures = s.failures;
            sends = sends-seen l (lane_down l a.down) (lane_down l c.down) k n (lane_up l b.up) _ _ (s.sends (lane_up l b.up) (is l));
            packet_count = s.packet_count;
            other = way-seen (other_lane l) (lane_down (other_lane l) a.down) (lane_down (other_lane l) c.down) k n (lane_up (other_lane l) b.up) s.other.down s.other.link;
            none_whole = s.none_whole;
            unflushed = s.unflushed;
            marks = marks-one up same;
          }

      failed : FailsAt a c k n → FailsSource One (world_of a b k m puts ticks) (world_of c b n m puts ticks)
      failed s = record {
        place = s.place;
        is_next = s.is_next;
        carries = s.carries;
        failed = s.counts;
        inbox = s.inbox;
        served = s.served;
        links = record { ends = (s.down, up); link = same-seen k n s.same_links; spares = record { station = refl; link = refl } };
        counts = record { puts = refl; ticks = refl };
      }
  polls-one did.Nothing h is up same = (h.0, keeps-one h.1)
  polls-one (did.Refused by) h is up same = absurd h

  pub flushes-one : (r : Applied) → FlushesAt r a c k n → AreCarried a.down k b.up → c.up ≡ a.up → AreSameMarks k n → Flushes r One (world_of a b k m puts ticks) (world_of c b n m puts ticks)
  flushes-one did.Applied h is up same = (
    record {
      entity = h.entity;
      sends = λ l. sends-seen l (lane_down l a.down) (lane_down l c.down) k n (lane_up l b.up) (flush_of (packing (lane_down l a.down))) [] ((h.lanes l).sends (lane_up l b.up) (is l));
      most = λ l. (h.lanes l).most;
      packet_count = h.packet_count;
      same = λ l none. (let kept = (h.lanes l).same none in way-seen l (lane_down l a.down) (lane_down l c.down) k n (lane_up l b.up) kept.down kept.link);
      none_whole = λ l. (h.lanes l).none_whole;
      marks = marks-one up same;
    },
    (h.more.0, grown-seen h.more.0 k n h.more.1),
  )
  flushes-one did.Nothing h is up same = (h.0, keeps-one h.1)
  flushes-one (did.Refused by) h is up same = absurd h

module _ (a c b : StationState) (k n m : FrameLinksState) (puts : List AcceptedPut) (ticks : ℕ) where
  marks-two : c.up ≡ a.up → AreSameMarks k n → KeepsMarks Two (world_of b a m k puts ticks) (world_of b c m n puts ticks)
  marks-two up same = record {
    up = up;
    marks = each-lane (λ l. (on_lane l (seen_links n)).marks ≡ (on_lane l (seen_links k)).marks) (same Directives).0 (same Data).0;
    run = each-lane (λ l. (on_lane l (seen_links n)).run ≡ (on_lane l (seen_links k)).run) (same Directives).1 (same Data).1;
    spares = record { station = refl; link = refl };
    counts = record { puts = refl; ticks = refl };
  }

  pub keeps-two : KeepsAt a c k n → world_of b c m n puts ticks ≡ world_of b a m k puts ticks
  keeps-two h = let seen = same-seen k n h.1 in λ i. record { one = b; two = h.0 i; from_one = seen_links m; from_two = seen i; puts = puts; ticks = ticks }

  pub polls-two : (r : Applied) → PollsAt r a c k n → AreCarried a.down k b.up → c.up ≡ a.up → AreSameMarks k n → Polls r Two (world_of b a m k puts ticks) (world_of b c m n puts ticks)
  polls-two did.Applied h is up same = elim h [ inl s ↦ inl (sent s) | inr s ↦ inr (failed s) ]
    where
      sent : SendsOneAt a c k n → SendsOne Two (world_of b a m k puts ticks) (world_of b c m n puts ticks)
      sent s =
          let l : Lane = next_lane a.entity.state in
          record {
            served = s.served;
            spells = s.spells;
            failures = s.failures;
            sends = sends-seen l (lane_down l a.down) (lane_down l c.down) k n (lane_up l b.up) _ _ (s.sends (lane_up l b.up) (is l));
            packet_count = s.packet_count;
            other = way-seen (other_lane l) (lane_down (other_lane l) a.down) (lane_down (other_lane l) c.down) k n (lane_up (other_lane l) b.up) s.other.down s.other.link;
            none_whole = s.none_whole;
            unflushed = s.unflushed;
            marks = marks-two up same;
          }

      failed : FailsAt a c k n → FailsSource Two (world_of b a m k puts ticks) (world_of b c m n puts ticks)
      failed s = record {
        place = s.place;
        is_next = s.is_next;
        carries = s.carries;
        failed = s.counts;
        inbox = s.inbox;
        served = s.served;
        links = record { ends = (s.down, up); link = same-seen k n s.same_links; spares = record { station = refl; link = refl } };
        counts = record { puts = refl; ticks = refl };
      }
  polls-two did.Nothing h is up same = (h.0, keeps-two h.1)
  polls-two (did.Refused by) h is up same = absurd h

  pub flushes-two : (r : Applied) → FlushesAt r a c k n → AreCarried a.down k b.up → c.up ≡ a.up → AreSameMarks k n → Flushes r Two (world_of b a m k puts ticks) (world_of b c m n puts ticks)
  flushes-two did.Applied h is up same = (
    record {
      entity = h.entity;
      sends = λ l. sends-seen l (lane_down l a.down) (lane_down l c.down) k n (lane_up l b.up) (flush_of (packing (lane_down l a.down))) [] ((h.lanes l).sends (lane_up l b.up) (is l));
      most = λ l. (h.lanes l).most;
      packet_count = h.packet_count;
      same = λ l none. (let kept = (h.lanes l).same none in way-seen l (lane_down l a.down) (lane_down l c.down) k n (lane_up l b.up) kept.down kept.link);
      none_whole = λ l. (h.lanes l).none_whole;
      marks = marks-two up same;
    },
    (h.more.0, grown-seen h.more.0 k n h.more.1),
  )
  flushes-two did.Nothing h is up same = (h.0, keeps-two h.1)
  flushes-two (did.Refused by) h is up same = absurd h

-- ---- what holds of both directions
pub way-on : (l : Lane) (d : LinkSenderState) (k : FrameLinksState) (u : LinkReceiverState) → IsOneWay (one_way d (lane_of_links l k) u) → IsOneWay (way d (on_lane l (seen_links k)) u)
way-on Directives d k u h = h
way-on Data d k u h = h

pub ways-of : (a b : StationState) (k m : FrameLinksState) (puts : List AcceptedPut) (ticks : ℕ) → AreCarried a.down k b.up → AreCarried b.down m a.up → (s : Side) →
    AreWays s (world_of a b k m puts ticks)
ways-of a b k m puts ticks one two One l = way-on l (lane_down l a.down) k (lane_up l b.up) (one l).way
ways-of a b k m puts ticks one two Two l = way-on l (lane_down l b.down) m (lane_up l a.up) (two l).way

-- of links on which nothing was sent
pub none-seen : (k : FrameLinksState) (len : ℕ) → ((l : Lane) → lane_of_links l k ≡ record { frames = []; places = []; marks = []; run = 0; blanks = 0; len = len }) → seen_links k ≡ no_lanes
none-seen k len none =
    let d = ap seen_link (none Directives) in
    let f = ap seen_link (none Data) in
    λ i. record { directives = d i; file_data = f i }

-- ---- the frame that was sent first
pub waits-seen : (s : Side) (r : Option Lane) (k : FrameLinksState) (w : WorldState) → seen_links k ≡ link_from s w →
    MatchOption r ((l : Lane) → length (lane_of_links l k).frames ≤ length (lane_of_links l k).marks) (λ l. length (lane_of_links l k).marks < length (lane_of_links l k).frames) →
    MatchOption r ((l : Lane) → NoneWaits s l w) (λ l. length (lane_from s l w).marks < length (lane_from s l w).frames)
waits-seen s None k w is none = λ l. subst (λ (x : LanesState). length (on_lane l x).frames ≤ length (on_lane l x).marks) is (as-seen (λ y. length y.frames ≤ length y.marks) l k (none l))
waits-seen s (Some l) k w is waits = subst (λ (x : LanesState). length (on_lane l x).marks < length (on_lane l x).frames) is (as-seen (λ y. length y.marks < length y.frames) l k waits)
