-- Each put stays on its course: a new world keeps it, and so does every event.
use Rattle.std.proofs.Common.{◌≡◌, ℕ, Bool, true, false, List, [], ◌∷◌, ◌++◌, length, Option, Some, None, inl, inr, refl, sym, ap, subst, ◌∙◌}
use Rattle.std.specs.Prelude.{Contains, IsSome}
use Rattle.cfdp_header.specs.declared.value.TransactionId.{TransactionId}
use Rattle.cfdp_header.specs.Files.{FileMap}
use Rattle.cfdp_directives.specs.User.Put.{Put}
use Rattle.aos_frame.specs.declared.config.Lane.{Lane}
use Rattle.aos_frame.specs.declared.config.Lane.TheVariants.{Directives, Data}
use Rattle.mpdu.specs.Packets.{packets_of}
use Rattle.mpdu.specs.Packets as packets
use Rattle.cfdp_entity.specs.declared.request.Request.{Request}
use Rattle.cfdp_entity.specs.declared.request.Request.TheVariants as calls
use Rattle.cfdp_entity.specs.Entity.{EntityState, Counted}
use Rattle.cfdp_entity.specs.History.{KeepsRecords, Leads}
use Rattle.cfdp_entity.specs.Polling.{turn, turn_octets}
use Rattle.cfdp_entity.specs.Sound.{IsSound as IsSoundEntity, ComesTrue, FindsMore}
use Rattle.cfdp_entity.specs.Table.{TableState}
use Rattle.link_stack.specs.Downward.{first_down, lane_down}
use Rattle.link_stack.specs.Upward.{first_up, lane_up}
use Rattle.cfdp_station.specs.Station.{StationState}
use Rattle.cfdp_station.specs.declared.config.StationConfig.{StationConfig}
use Rattle.station_pair.specs.declared.side.Side.{Side}
use Rattle.station_pair.specs.declared.side.Side.TheVariants.{One, Two}
use Rattle.link_sim.specs.declared.event.Event.{Event}
use Rattle.link_sim.specs.declared.event.Event.TheVariants as event
use Rattle.link_sim.specs.declared.event.Applied.{Applied}
use Rattle.link_sim.specs.declared.event.Applied.TheVariants as did
use Rattle.station_pair.specs.declared.refusal.Refusal.TheVariants as refusal
use Rattle.link_sim.specs.declared.event.AcceptedPut.{AcceptedPut}
use Rattle.station_pair.specs.declared.world_config.WorldConfig.{WorldConfig}
use Rattle.link_sim.specs.Between.{Pdu, AreSpelled}
use Rattle.link_sim.specs.EveryPut.{KeepCourse, LosesNone}
use Rattle.link_sim.specs.Known.{AreKnown, ArePeers}
use Rattle.link_sim.specs.Observed.{seen}
use Rattle.link_sim.specs.OneWay.{on_way}
use Rattle.station_pair.specs.Stations.{other}
use Rattle.link_sim.specs.Sound.{IsSound}
use Rattle.link_sim.specs.Theorem.{put_of, put_by, accepted_as}
use Rattle.link_sim.specs.World.State.{WorldState, LanesState, delivered_from, entity_at, no_lanes, on_lane, on_way_from, station_at, way, way_from, IsFirst}
use Rattle.link_sim.specs.World.Steps.{KeepsLinks, Stays, TakesPut, StepsAt, TellsTime, SendsOne, FailsSource, Fills, HasFrame, DeliversFrame, LosesFrame, Puts, Calls, Polls, Flushes, Delivers, Strikes, Damages, Steps}
use Rattle.link_sim.proofs.Events.Beginning.{event-moves}
use Rattle.link_sim.proofs.EveryPut.Heard.{Runs, Given, Ran, given-all, given-part, lost-run, run}
use Rattle.link_sim.proofs.EveryPut.Kept.{Kept, kept-same, kept-losses, kept-called, kept-ticked, kept-sent, kept-failed, kept-run, kept-put}
use Rattle.link_sim.proofs.EveryPut.Lost.{loses-kept, loses-marks, loses-delivered, loses-one}
use Rattle.link_sim.proofs.Events.Keeping.{Grounds, each, other-other, entity-then, heard-true}
use Rattle.link_sim.proofs.EveryPut.Steps.{IsInOrder, in-order}
use Rattle.link_sim.proofs.EveryPut.Known.{first-known, front-known}
use Rattle.link_sim.proofs.EveryPut.Pdus.{InTwo, spelled-split}
use Rattle.link_sim.proofs.EveryPut.Puts.{adds-put, same-puts}
use Rattle.link_sim.proofs.Events.Moving.{EntityLaws, Moves, sends-one, sends-two, apart, goes-at, fresh, found-now, stays-moves}
use Rattle.link_sim.proofs.Lanes.Heard.{given-delivered}
use Rattle.link_sim.proofs.Lanes.Joined.{lanes-same, swapped-among, swapped-back}
use Rattle.link_sim.proofs.Lanes.Same.{same-on-way}
use Rattle.link_sim.proofs.Lanes.Swapping.{swapped-kept}
use Rattle.link_sim.proofs.Lanes.Ways.{back-kept, forth-kept, lane-same, strikes-loses}
use Rattle.link_sim.proofs.OnWay.Pdus.{pdus_ended}
use Rattle.link_sim.proofs.OnWay.World.{SendsOnWay, FlushesOnWay, HearsOnWay, TakesOffWay, polls-on-way, fills-on-way, delivers-on-way, loses-on-way}
use Rattle.link_sim.proofs.Found.Puts.{puts-by-id, found-by, accepted-among, accepted-id}

-- ---- seen from either station
abbrev KeptAt : Side → WorldState → Type 0
KeptAt s w = Kept (put_of (seen w)) (LosesNone w) (entity_at s w) (entity_at (other s) w) (on_way_from s w) (on_way_from (other s) w)

to-kept : (s : Side) (w : WorldState) → KeepCourse w → KeptAt s w
to-kept One w k = record {
  forth = k.from_one;
  back = k.from_two;
  spelled = k.spelled_one;
  spelled_back = k.spelled_two;
  known = k.known;
  kinds = k.kinds One;
  kinds_there = k.kinds Two;
  of_mine = k.puts_of_one;
  of_theirs = k.puts_of_two;
}
to-kept Two w k = record {
  forth = k.from_two;
  back = k.from_one;
  spelled = k.spelled_two;
  spelled_back = k.spelled_one;
  known = (k.known.1, k.known.0);
  kinds = k.kinds Two;
  kinds_there = k.kinds One;
  of_mine = k.puts_of_two;
  of_theirs = k.puts_of_one;
}

from-kept : (s : Side) (w : WorldState) → KeptAt s w → KeepCourse w
from-kept One w k = record {
  from_one = k.forth;
  from_two = k.back;
  spelled_one = k.spelled;
  spelled_two = k.spelled_back;
  known = k.known;
  kinds = each (λ t. length (entity_at t w).drops ≡ 18) k.kinds k.kinds_there;
  puts_of_one = k.of_mine;
  puts_of_two = k.of_theirs;
}
from-kept Two w k = record {
  from_one = k.back;
  from_two = k.forth;
  spelled_one = k.spelled_back;
  spelled_two = k.spelled;
  known = (k.known.1, k.known.0);
  kinds = each (λ t. length (entity_at t w).drops ≡ 18) k.kinds_there k.kinds;
  puts_of_one = k.of_theirs;
  puts_of_two = k.of_mine;
}

-- the same of entities and texts that are the same
kept-as : (P : TransactionId → Option Put) (N : Type 0) (m m1 th th1 : EntityState) (a a1 b b1 : List (List ℕ)) → m1 ≡ m → th1 ≡ th → a1 ≡ a → b1 ≡ b → Kept P N m th a b → Kept P N m1 th1 a1 b1
kept-as P N m m1 th th1 a a1 b b1 im ith ia ib k =
    subst (λ (x : EntityState). Kept P N x th1 a1 b1) (sym im) (subst (λ (x : EntityState). Kept P N m x a1 b1) (sym ith)
    (subst (λ (l : List (List ℕ)). Kept P N m th l b1) (sym ia) (subst (λ (l : List (List ℕ)). Kept P N m th a l) (sym ib) k)))

-- ---- at first
-- nothing is on its way
none-in-lane : (l : Lane) (c e : StationConfig) → on_way (way (lane_down l (first_down c.sends c.capacity)) (on_lane l no_lanes) (lane_up l (first_up e.receives))) ≡ []
unfolding packets_of packets.first_packets
none-in-lane Directives c e = refl
none-in-lane Data c e = refl

none-on-lane : (l : Lane) (c e : StationConfig) (s t : StationState) (k : LanesState) → s.down ≡ first_down c.sends c.capacity → t.up ≡ first_up e.receives → k ≡ no_lanes →
    on_way (way (lane_down l s.down) (on_lane l k) (lane_up l t.up)) ≡ []
none-on-lane l c e s t k down up link = ap on_way (lane-same l (first_down c.sends c.capacity) s.down no_lanes k (first_up e.receives) t.up down link up) ∙ none-in-lane l c e

none-on-way : (c e : StationConfig) (s t : StationState) (k : LanesState) → s.down ≡ first_down c.sends c.capacity → t.up ≡ first_up e.receives → k ≡ no_lanes →
    on_way (way (lane_down Directives s.down) (on_lane Directives k) (lane_up Directives t.up)) ++ on_way (way (lane_down Data s.down) (on_lane Data k) (lane_up Data t.up)) ≡ []
none-on-way c e s t k down up link =
    lanes-same (λ l. []) (λ l. on_way (way (lane_down l s.down) (on_lane l k) (lane_up l t.up))) (λ l. none-on-lane l c e s t k down up link)

module _ (c : WorldConfig) (outboxes inboxes : FileMap × FileMap) (w : WorldState) (is : IsFirst c outboxes inboxes w) where
  none-found : (id : TransactionId) → put_of (seen w) id ≡ None
  none-found id = ap (λ (ps : List AcceptedPut). put_by (seen w) (accepted_as ps id)) is.puts

  none-some : (id : TransactionId) → IsSome (put_of (seen w) id) → ⊥
  none-some id some = by (put_of (seen w) id) (none-found id) some
    where
      by : (o : Option Put) → o ≡ None → IsSome o → ⊥
      by None is h = absurd cc
      by (Some put) is h = absurd cc

  pub first-courses : KeepCourse w
  first-courses =
      record {
        from_one = [];
        from_two = [];
        spelled_one = subst (λ l. AreSpelled l []) (sym (none-on-way c.one c.two w.one w.two w.from_one is.one.down is.two.up is.from_one)) tt;
        spelled_two = subst (λ l. AreSpelled l []) (sym (none-on-way c.two c.one w.two w.one w.from_two is.two.down is.one.up is.from_two)) tt;
        known = (
          first-known (put_of (seen w)) (entity_at One w) (entity_at Two w) none-some (ap (λ (e : EntityState). e.table.records) is.one.entity) (ap (λ (e : EntityState). e.strays) is.one.entity) (ap (λ (e : EntityState). e.forgotten) is.one.entity),
          first-known (put_of (seen w)) (entity_at Two w) (entity_at One w) none-some (ap (λ (e : EntityState). e.table.records) is.two.entity) (ap (λ (e : EntityState). e.strays) is.two.entity) (ap (λ (e : EntityState). e.forgotten) is.two.entity),
        );
        kinds = each (λ t. length (entity_at t w).drops ≡ 18) (ap (λ (e : EntityState). length e.drops) is.one.entity) (ap (λ (e : EntityState). length e.drops) is.two.entity);
        puts_of_one = λ put found. absurd (let there : None ≡ Some put = sym (none-found put.id) ∙ found in cc);
        puts_of_two = λ put found. absurd (let there : None ≡ Some put = sym (none-found put.id) ∙ found in cc);
      }

-- ---- two entities
pub are-peers : (w : WorldState) → IsSound w → (s : Side) → ArePeers (entity_at s w) (entity_at (other s) w)
are-peers w sound s = record {
  of_mine = (sound s).peer;
  of_theirs = subst (λ (u : Side). (entity_at (other s) w).config.peer ≡ (entity_at u w).config.entity) (other-other s) (sound (other s)).peer;
  apart = apart w sound s;
}

-- the law of records and those of an entity, an event, and what it comes to
module _ (laws : EntityLaws) (grounds : Grounds) (stays : (old new : TableState) → Leads old new → KeepsRecords old.records new.records) (old new : WorldState) (sound : IsSound old) where
  -- ---- a put
  pub put-courses : (s : Side) (source destination : List ℕ) → TakesPut s source destination old new → KeepCourse old → KeepCourse new
  put-courses s source destination h k =
      let p : AcceptedPut = record { id = h.id; source = source; destination = destination } in
      let goes = goes-at laws old new sound s source destination h in
      let none : IsSome (put_of (seen old) h.id) → ⊥ = is-fresh (put_of (seen old) h.id) refl in
      let c = kept-losses (put_of (seen old)) (LosesNone old) (LosesNone new) (entity_at s old) (entity_at (other s) old) (on_way_from s old) (on_way_from (other s) old)
      (loses-kept s old new h.links) (to-kept s old k) in
      let after = kept-put (put_of (seen old)) (put_of (seen new)) (LosesNone new) source destination h.id (entity_at s old) (entity_at s new) (entity_at (other s) old) (on_way_from s old)
      (on_way_from (other s) old) h.accepts
      (adds-put (seen old) (seen new) p (sends-one old new sound goes) (sends-two old new sound goes) h.puts) (are-peers old sound s) (found-now laws old new sound s source destination h) none
      (delivered_from (other (other s)) old) (sound (other s)).first (sound (other s)).entity c in
      from-kept s new (kept-as (put_of (seen new)) (LosesNone new) (entity_at s new) (entity_at s new) (entity_at (other s) old) (entity_at (other s) new) (on_way_from s old)
      (on_way_from s new) (on_way_from (other s) old) (on_way_from (other s) new)
      refl (ap (λ x. x.entity.state) h.links.spares.station) (same-on-way s old new (forth-kept s old new h.links)) (same-on-way (other s) old new (back-kept s old new h.links)) after)
    where
      is-fresh : (o : Option Put) → put_of (seen old) h.id ≡ o → IsSome o → ⊥
      is-fresh None e some = absurd cc
      is-fresh (Some put) e some =
          let q = found-by (seen old) (accepted_as old.puts h.id) put e in
          fresh laws old new sound s source destination h q.0 (accepted-among old.puts h.id q.0 q.1.0) (accepted-id old.puts h.id q.0 q.1.0)

  -- ---- no put
  module _ (m : Moves old new) (puts : new.puts ≡ old.puts) where
    abbrev P : TransactionId → Option Put
    P = put_of (seen new)

    same : FindsMore (put_of (seen old)) P × FindsMore P (put_of (seen old))
    same = same-puts (seen old) (seen new) (sends-one old new sound (λ t. (m.sides t).goes)) (sends-two old new sound (λ t. (m.sides t).goes)) puts

    config : (t : Side) → (entity_at t new).config ≡ (entity_at t old).config
    config t = (m.sides t).goes.config

    -- what came to a station
    abbrev came : Side → List (List ℕ)
    came t = delivered_from (other t) old ++ (m.sides t).more

    sound-then : (t : Side) → IsSoundEntity P (came t) (sound t).first (entity_at t old)
    sound-then t = entity-then grounds old new sound m.sides m.puts t

    order : (t : Side) → IsInOrder P (entity_at t old).table
    order t = in-order P (came t) (sound t).first (entity_at t old) (sound-then t)

    -- what was kept, in the words of the new world
    start : (s : Side) → (LosesNone new → LosesNone old) → KeepCourse old →
        Kept P (LosesNone new) (entity_at s old) (entity_at (other s) old) (on_way_from s old) (on_way_from (other s) old)
    start s so k =
        kept-losses P (LosesNone old) (LosesNone new) (entity_at s old) (entity_at (other s) old) (on_way_from s old) (on_way_from (other s) old) so
        (kept-same (put_of (seen old)) P (LosesNone old) (entity_at s old) (entity_at (other s) old) (on_way_from s old) (on_way_from (other s) old) same.0 same.1 (to-kept s old k))

    -- if only the entity of one station moved
    moved : (s : Side) → KeepsLinks s old new → Kept P (LosesNone new) (entity_at s new) (entity_at (other s) old) (on_way_from s old) (on_way_from (other s) old) → KeepCourse new
    moved s l k =
        from-kept s new (kept-as P (LosesNone new) (entity_at s new) (entity_at s new) (entity_at (other s) old) (entity_at (other s) new) (on_way_from s old) (on_way_from s new)
        (on_way_from (other s) old) (on_way_from (other s) new)
        refl (ap (λ x. x.entity.state) l.spares.station) (same-on-way s old new (forth-kept s old new l)) (same-on-way (other s) old new (back-kept s old new l)) k)

    pub stays-course : (s : Side) → Stays s old new → KeepCourse old → KeepCourse new
    stays-course s h k =
        moved s h.links (subst (λ (x : EntityState). Kept P (LosesNone new) x (entity_at (other s) old) (on_way_from s old) (on_way_from (other s) old)) (sym h.entity)
        (start s (loses-kept s old new h.links) k))

    pub called-courses : (s : Side) (c : Request) (id : TransactionId) → StepsAt s c id old new → KeepCourse old → KeepCourse new
    called-courses s c id h k =
        moved s h.links (kept-called stays P (LosesNone new) (entity_at s old) (entity_at s new) (entity_at (other s) old) (on_way_from s old) (on_way_from (other s) old) (config s)
        (order s) (order (other s)) (start s (loses-kept s old new h.links) k) c id h.called)

    pub told-courses : (s : Side) (now : ℕ) → TellsTime s now old new → KeepCourse old → KeepCourse new
    told-courses s now h k =
        moved s h.links (kept-ticked stays P (LosesNone new) (entity_at s old) (entity_at s new) (entity_at (other s) old) (on_way_from s old) (on_way_from (other s) old) (config s)
        (order s) (order (other s)) (start s (loses-kept s old new h.links) k) now h.ticked h.table)

    pub failed-courses : (s : Side) → FailsSource s old new → KeepCourse old → KeepCourse new
    failed-courses s h k =
        moved s h.links (kept-failed stays P (LosesNone new) (entity_at s old) (entity_at s new) (entity_at (other s) old) (on_way_from s old) (on_way_from (other s) old) (config s)
        (order s) (order (other s)) (start s (loses-kept s old new h.links) k)
        h.place h.is_next h.carries h.served)

    pub sent-courses : (s : Side) → SendsOne s old new → KeepCourse old → KeepCourse new
    sent-courses s h k =
        let e : EntityState = entity_at s old in
        let text : List ℕ = turn_octets (turn e) e in
        let on : SendsOnWay s text old new = polls-on-way s old new (sound s).ways h in
        let after = kept-sent stays P (LosesNone new) e (entity_at s new) (entity_at (other s) old) (on_way_from s old) (on_way_from (other s) old) (config s) (order s) (order (other s))
        (start s (loses-marks s old new h.marks) k)
        (came s) (sound s).first (sound-then s) (are-peers old sound s) h.spells h.served in
        let turned = swapped-kept P (LosesNone new) (entity_at s new) (entity_at (other s) old) (on_way_from s old ++ text ∷ []) (on_way_from s new) (on_way_from (other s) old) on.forth after in
        from-kept s new (kept-as P (LosesNone new) (entity_at s new) (entity_at s new) (entity_at (other s) old) (entity_at (other s) new) (on_way_from s new)
        (on_way_from s new) (on_way_from (other s) old) (on_way_from (other s) new)
        refl (ap (λ x. x.entity.state) h.marks.spares.station) refl (same-on-way (other s) old new on.back) turned)

    pub filled-courses : (s : Side) → Fills s old new → HasFrame s old new → KeepCourse old → KeepCourse new
    filled-courses s h grown k =
        let on : FlushesOnWay s old new = fills-on-way s old new (sound s).ways h grown in
        from-kept s new (kept-as P (LosesNone new) (entity_at s old) (entity_at s new) (entity_at (other s) old) (entity_at (other s) new) (on_way_from s old) (on_way_from s new)
        (on_way_from (other s) old) (on_way_from (other s) new)
        (ap (λ (c : Counted). c.state) h.entity) (ap (λ x. x.entity.state) h.marks.spares.station) on.forth (same-on-way (other s) old new on.back) (start s (loses-marks s old new h.marks) k))

    -- ---- frames
    -- what is given of a frame is true
    given-true : (s : Side) (l : Lane) (h : DeliversFrame s l old new) (x : List ℕ) → Contains h.given x → ComesTrue (entity_at (other s) old).config.peer P (came (other s)) x
    given-true s l h x c =
        let there : Contains (delivered_from (other (other s)) new) x =
        subst (λ (u : Side). Contains (delivered_from u new) x) (sym (other-other s)) (given-delivered grounds.in_whole s l old new h x c) in
        heard-true grounds old new sound m.sides m.puts (other s) x
        (swapped-among (delivered_from (other (other s)) new) (came (other s))
        (swapped-back (came (other s)) (delivered_from (other (other s)) new) (m.sides (other s)).delivered) x there)

    -- with those on their way that the frame ends in front
    heard-courses : (s : Side) (l : Lane) (h : DeliversFrame s l old new) (on : HearsOnWay s h.given old new) →
        Kept P (LosesNone new) (entity_at s old) (entity_at (other s) old) (on.gone ++ on_way_from s new) (on_way_from (other s) old) → KeepCourse new
    heard-courses s l h on kept =
        let c0 : Counted = (station_at (other s) old).entity in
        let c1 : Counted = (station_at (other s) new).entity in
        let e : EntityState = entity_at s old in
        let a : List (List ℕ) = on_way_from s new in
        let b : List (List ℕ) = on_way_from (other s) old in
        let parts : InTwo on.gone a kept.forth = spelled-split on.gone a kept.forth kept.spelled in
        let known : AreKnown P c0.state e kept.back (parts.first ++ parts.rest) = subst (λ l. AreKnown P c0.state e kept.back l) parts.joined (kept.known.1, kept.known.0) in
        let ran : (lossless : Bool) → Given lossless h.given on.gone → Ran laws stays P (puts-by-id (seen new)) (came (other s))
        (sound (other s)).first e kept.back lossless parts.first parts.rest c0 c1 = λ lossless given.
        run laws stays P (puts-by-id (seen new)) (came (other s)) (sound (other s)).first e kept.back lossless on.gone h.given parts.first parts.rest c0 c1 given parts.spelled h.heard
        (given-true s l h)
        (sound-then (other s)) kept.kinds_there known in
        let some : Given false h.given on.gone = given-part h.given on.gone on.part in
        let all : LosesNone new → Given true h.given on.gone = λ (none : LosesNone new).
        subst (λ (l : List (List ℕ)). Given true l on.gone) (sym (on.all (none s).none_lost (none (other s)).memory)) (given-all true on.gone) in
        let last = ran false some in
        let after : Kept P (LosesNone new) e c1.state a b = kept-run P (LosesNone new) e c0 c1 on.gone a b (config (other s)) (order s) kept last.known last.kinds
        (λ lossless none. by-losses P h.given on.gone parts.first c0 c1 (LosesNone new) all some (λ l g. (ran l g).runs) lossless none) in
        from-kept s new (kept-as P (LosesNone new) e (entity_at s new) (entity_at (other s) new) (entity_at (other s) new) a (on_way_from s new) b (on_way_from (other s) new)
        (ap (λ x. x.entity.state) h.station) refl refl (same-on-way (other s) old new on.takes.back) after)
      where
        by-losses : (P : TransactionId → Option Put) (given gone : List (List ℕ)) (pdus : List Pdu) (c0 c1 : Counted) (N : Type 0) → (N → Given true given gone) → Given false given gone →
            ((lossless : Bool) → Given lossless given gone → Runs P lossless pdus c0 c1) → (lossless : Bool) → (lossless ≡ true → N) → Runs P lossless pdus c0 c1
        by-losses P given gone pdus c0 c1 N all some runs true none = runs true (all (none refl))
        by-losses P given gone pdus c0 c1 N all some runs false none = runs false some

    pub delivered-courses : (s : Side) (l : Lane) → DeliversFrame s l old new → KeepCourse old → KeepCourse new
    delivered-courses s l h k =
        let on : HearsOnWay s h.given old new = delivers-on-way s l old new (sound s).ways h in
        heard-courses s l h on
        (swapped-kept P (LosesNone new) (entity_at s old) (entity_at (other s) old) (on_way_from s old) (on.gone ++ on_way_from s new) (on_way_from (other s) old) on.takes.forth
        (start s (loses-delivered s old new l h) k))

    -- with those on their way that the lost frame ends in front
    past-courses : (s : Side) (l : Lane) (h : LosesFrame s l old new) (gone : List (List ℕ)) (on : TakesOffWay s gone old new) →
        Kept P (LosesNone new) (entity_at s old) (entity_at (other s) old) (gone ++ on_way_from s new) (on_way_from (other s) old) → KeepCourse new
    past-courses s l h gone on kept =
        let c0 : Counted = (station_at (other s) old).entity in
        let e : EntityState = entity_at s old in
        let a : List (List ℕ) = on_way_from s new in
        let b : List (List ℕ) = on_way_from (other s) old in
        let parts : InTwo gone a kept.forth = spelled-split gone a kept.forth kept.spelled in
        let known : AreKnown P e c0.state parts.rest kept.back = front-known P e c0.state parts.first parts.rest kept.back (subst (λ l. AreKnown P e c0.state l kept.back) parts.joined kept.known) in
        let after : Kept P (LosesNone new) e c0.state a b = kept-run P (LosesNone new) e c0 c0 gone a b refl (order s) kept (known.1, known.0) kept.kinds_there
        (λ lossless none. all-lost-by P parts.first c0 (LosesNone new) (loses-one s old new l h) lossless none) in
        from-kept s new (kept-as P (LosesNone new) e (entity_at s new) (entity_at (other s) old) (entity_at (other s) new) a (on_way_from s new) b (on_way_from (other s) new)
        (ap (λ x. x.entity.state) h.station) (ap (λ (c : Counted). c.state) h.entity) refl (same-on-way (other s) old new on.back) after)
      where
        all-lost-by : (P : TransactionId → Option Put) (pdus : List Pdu) (c : Counted) (N : Type 0) → (N → ⊥) → (lossless : Bool) → (lossless ≡ true → N) → Runs P lossless pdus c c
        all-lost-by P pdus c N lost true none = absurd (lost (none refl))
        all-lost-by P pdus c N lost false none = lost-run P pdus c

    pub lost-courses : (s : Side) (l : Lane) → LosesFrame s l old new → KeepCourse old → KeepCourse new
    lost-courses s l h k =
        let gone : List (List ℕ) = pdus_ended (way_from s l old) in
        let on : TakesOffWay s gone old new = loses-on-way s l old new (sound s).ways h in
        past-courses s l h gone on
        (swapped-kept P (LosesNone new) (entity_at s old) (entity_at (other s) old) (on_way_from s old) (gone ++ on_way_from s new) (on_way_from (other s) old) on.forth
        (start s (λ none. absurd (loses-one s old new l h none)) k))

  -- ---- each event
  same-courses : new ≡ old → KeepCourse old → KeepCourse new
  same-courses e k = subst KeepCourse (sym e) k

  pub stays-courses : (s : Side) → Stays s old new → KeepCourse old → KeepCourse new
  stays-courses s h k = stays-course (stays-moves s old new sound h) h.counts.puts s h k

  put-by-event : (d : Applied) (s : Side) (source destination : List ℕ) → Puts d s source destination old new → KeepCourse old → KeepCourse new
  put-by-event did.Applied s source destination h k = put-courses s source destination h k
  put-by-event did.Nothing s source destination h k = absurd h
  put-by-event (did.Refused (refusal.Put by)) s source destination h k = stays-courses s h.stays k
  put-by-event (did.Refused (refusal.Call by)) s source destination h k = absurd h
  put-by-event (did.Refused refusal.LossRunTooLong) s source destination h k = absurd h
  put-by-event (did.Refused refusal.NotDamaged) s source destination h k = absurd h

  call-by-event : (d : Applied) (s : Side) (c : Request) (id : TransactionId) → Moves old new → Calls d s c id old new → KeepCourse old → KeepCourse new
  call-by-event did.Applied s c id m h k = called-courses m h.counts.puts s c id h k
  call-by-event did.Nothing s c id m h k = absurd h
  call-by-event (did.Refused (refusal.Put by)) s c id m h k = absurd h
  call-by-event (did.Refused (refusal.Call by)) s c id m h k = same-courses h.same k
  call-by-event (did.Refused refusal.LossRunTooLong) s c id m h k = absurd h
  call-by-event (did.Refused refusal.NotDamaged) s c id m h k = absurd h

  poll-by-event : (d : Applied) (s : Side) → Moves old new → Polls d s old new → KeepCourse old → KeepCourse new
  poll-by-event did.Applied s m (inl h) k = sent-courses m h.marks.counts.puts s h k
  poll-by-event did.Applied s m (inr h) k = failed-courses m h.counts.puts s h k
  poll-by-event did.Nothing s m h k = same-courses h.1 k
  poll-by-event (did.Refused by) s m h k = absurd h

  flush-by-event : (d : Applied) (s : Side) → Moves old new → Flushes d s old new → KeepCourse old → KeepCourse new
  flush-by-event did.Applied s m h k = filled-courses m h.0.marks.counts.puts s h.0 h.1 k
  flush-by-event did.Nothing s m h k = same-courses h.1 k
  flush-by-event (did.Refused by) s m h k = absurd h

  deliver-by-event : (d : Applied) (s : Side) (l : Lane) → Moves old new → Delivers d s l old new → KeepCourse old → KeepCourse new
  deliver-by-event did.Applied s l m h k = delivered-courses m h.counts.puts s l h k
  deliver-by-event did.Nothing s l m h k = same-courses h.1 k
  deliver-by-event (did.Refused by) s l m h k = absurd h

  strike-by-event : (d : Applied) (s : Side) (l : Lane) → Moves old new → Strikes d s l old new → KeepCourse old → KeepCourse new
  strike-by-event did.Applied s l m h k = lost-courses m h.counts.puts s l (strikes-loses s l old new (sound s).ways h) k
  strike-by-event did.Nothing s l m h k = same-courses h.1 k
  strike-by-event (did.Refused (refusal.Put by)) s l m h k = absurd h
  strike-by-event (did.Refused (refusal.Call by)) s l m h k = absurd h
  strike-by-event (did.Refused refusal.LossRunTooLong) s l m h k = same-courses h.same k
  strike-by-event (did.Refused refusal.NotDamaged) s l m h k = absurd h

  damage-by-event : (d : Applied) (s : Side) (l : Lane) (octets : List ℕ) → Moves old new → Damages d s l octets old new → KeepCourse old → KeepCourse new
  damage-by-event did.Applied s l octets m h k = lost-courses m h.loses.counts.puts s l h.loses k
  damage-by-event did.Nothing s l octets m h k = same-courses h.1 k
  damage-by-event (did.Refused (refusal.Put by)) s l octets m h k = absurd h
  damage-by-event (did.Refused (refusal.Call by)) s l octets m h k = absurd h
  damage-by-event (did.Refused refusal.LossRunTooLong) s l octets m h k = same-courses h.same k
  damage-by-event (did.Refused refusal.NotDamaged) s l octets m h k = same-courses h.same k

  by-event : (e : Event) (d : Applied) → Moves old new → Steps e d old new → KeepCourse old → KeepCourse new
  by-event (event.Put s source destination) d m h k = put-by-event d s source destination h k
  by-event (event.Cancel s id) d m h k = call-by-event d s calls.Cancel id m h k
  by-event (event.Suspend s id) d m h k = call-by-event d s calls.Suspend id m h k
  by-event (event.Resume s id) d m h k = call-by-event d s calls.Resume id m h k
  by-event (event.Prompt s id keep_alive) d m h k = call-by-event d s (calls.Prompt keep_alive) id m h k
  by-event (event.Poll s) d m h k = poll-by-event d s m h k
  by-event (event.Flush s) d m h k = flush-by-event d s m h k
  by-event (event.Tick s now) did.Applied m h k = told-courses m h.puts s now h k
  by-event (event.Tick s now) did.Nothing m h k = absurd h
  by-event (event.Tick s now) (did.Refused by) m h k = absurd h
  by-event (event.Deliver s l) d m h k = deliver-by-event d s l m h k
  by-event (event.Strike s l) d m h k = strike-by-event d s l m h k
  by-event (event.Damage s l octets) d m h k = damage-by-event d s l octets m h k

  pub steps-courses : (e : Event) (d : Applied) → Steps e d old new → KeepCourse old → KeepCourse new
  steps-courses e d h k = by-event e d (event-moves laws old new sound e d h) h k
