-- Each poll, flush and delivery that does something lowers what a world may still do.
use Rattle.std.proofs.Common.{◌≡◌, ℕ, ◌+◌, ◌*◌, ◌<◌, ◌≤◌, List, [], ◌∷◌, ◌++◌, refl, sym, ap, ◌∙◌, inl, inr, arith}
use Rattle.aos_frame.specs.declared.config.Lane.{Lane}
use Rattle.cfdp_store.specs.declared.stored.Stored.TheVariants.{Done, Refused}
use Rattle.cfdp_entity.specs.Entity.{EntityState}
use Rattle.cfdp_entity.specs.Polling.{turn, served}
use Rattle.cfdp_station.specs.Polling.{next_pdu}
use Rattle.station_pair.specs.declared.side.Side.{Side}
use Rattle.station_pair.specs.declared.side.Side.TheVariants.{One, Two}
use Rattle.link_sim.specs.declared.event.Event.{Event}
use Rattle.link_sim.specs.declared.event.Event.TheVariants as event
use Rattle.link_sim.specs.declared.event.Applied.TheVariants as did
use Rattle.station_pair.specs.Stations.{other}
use Rattle.link_sim.specs.Observed.{seen}
use Rattle.link_sim.specs.Runs.{IsSwapped}
use Rattle.link_sim.specs.Settling.{IsOfSettling}
use Rattle.link_sim.specs.Sound.{IsSound}
use Rattle.link_sim.specs.Theorem.{put_of}
use Rattle.link_sim.specs.Work.{entity_work, text_work, texts_work, most_offset, octets_left_from, world_work}
use Rattle.link_sim.specs.World.State.{AreRested, WorldState, entity_at, on_way_from, station_at, way_from}
use Rattle.link_sim.specs.World.Steps.{SendsOne, FailsSource, DeliversFrame, Flushes, Steps}
use Rattle.link_sim.proofs.Lanes.Same.{same-left, same-on-way}
use Rattle.link_sim.proofs.Lanes.Ways.{back-kept, forth-kept}
use Rattle.link_sim.proofs.OnWay.World.{SendsOnWay, FlushesOnWay, HearsOnWay, polls-on-way, fills-on-way, delivers-on-way}
use Rattle.link_sim.proofs.Work.Entity.{work-moved, work-failed, work-hears-all, work-none, work-cons, work-append, work-part}

-- what one entity, the PDUs on their way from it, and the frames after them may still do
abbrev E : Side → WorldState → ℕ
E s w = entity_work most_offset (entity_at s w)

abbrev T : Side → WorldState → ℕ
T s w = texts_work most_offset (on_way_from s w)

abbrev O : Side → WorldState → ℕ
O s w = octets_left_from s w

-- texts that changed places bring as much
work-swapped : (most : ℕ) (texts texts1 : List (List ℕ)) → IsSwapped texts texts1 → texts_work most texts1 ≡ texts_work most texts
work-swapped most texts texts1 s =
    let was : texts_work most texts ≡ _ = ap (texts_work most) s.was ∙ parts s.first s.second in
    let is : texts_work most texts1 ≡ _ = ap (texts_work most) s.is ∙ parts s.second s.first in
    omega (arith, was, is)
  where
    parts : (a b : List (List ℕ)) → texts_work most (s.before ++ (a ++ (b ++ s.behind))) ≡ texts_work most s.before + (texts_work most a + (texts_work most b + texts_work most s.behind))
    parts a b = work-append most s.before (a ++ (b ++ s.behind))
        ∙ ap (λ n. texts_work most s.before + n) (work-append most a (b ++ s.behind) ∙ ap (λ n. texts_work most a + n) (work-append most b s.behind))

by-sides : (s : Side) (w : WorldState) → world_work w ≡ 131085 * (E s w + E (other s) w + T s w + T (other s) w) + O s w + O (other s) w
unfolding world_work
by-sides One w = refl
by-sides Two w = omega arith

module _ (old new : WorldState) (sound : IsSound old) (rested : (s : Side) → AreRested s old) (rests : (s : Side) → AreRested s new) where
  poll-less : (s : Side) → SendsOne s old new → world_work new < world_work old
  poll-less s h =
      let e : EntityState = entity_at s old in
      let x : ℕ = text_work most_offset (next_pdu e) in
      let k : SendsOnWay s (next_pdu e) old new = polls-on-way s old new (sound s).ways h in
      let moved : entity_work most_offset (served Done (turn e) e) + x < E s old = work-moved most_offset e (put_of (seen old)) (sound s).within (sound s).entity.sends h.spells in
      let is : E s new ≡ entity_work most_offset (served Done (turn e) e) = ap (entity_work most_offset) h.served in
      let e2 : E (other s) new ≡ E (other s) old = ap (λ x. entity_work most_offset x.entity.state) h.marks.spares.station in
      let t1 : T s new ≡ T s old + texts_work most_offset (next_pdu e ∷ []) = work-swapped most_offset (on_way_from s old ++ next_pdu e ∷ []) (on_way_from s new) k.forth
      ∙ work-append most_offset (on_way_from s old) (next_pdu e ∷ []) in
      let one : texts_work most_offset (next_pdu e ∷ []) ≡ x + texts_work most_offset [] = work-cons most_offset (next_pdu e) [] in
      let none : texts_work most_offset [] ≡ 0 = work-none most_offset in
      let t2 : T (other s) new ≡ T (other s) old = ap (texts_work most_offset) (same-on-way (other s) old new k.back) in
      let o1 : O s new ≤ O s old + 131084 = k.left (rests s) in
      let o2 : O (other s) new ≡ O (other s) old = same-left (other s) old new k.back in
      omega (arith, by-sides s old, by-sides s new, moved, is, e2, t1, one, none, t2, o1, o2)

  failed-less : (s : Side) → FailsSource s old new → world_work new < world_work old
  failed-less s h =
      let e : EntityState = entity_at s old in
      let failed : entity_work most_offset (served Refused (turn e) e) < E s old = work-failed most_offset e (put_of (seen old)) (sound s).within (sound s).entity.sends h.place h.is_next in
      let is : E s new ≡ entity_work most_offset (served Refused (turn e) e) = ap (entity_work most_offset) h.served in
      let e2 : E (other s) new ≡ E (other s) old = ap (λ x. entity_work most_offset x.entity.state) h.links.spares.station in
      let forth : (l : Lane) → way_from s l new ≡ way_from s l old = forth-kept s old new h.links in
      let back : (l : Lane) → way_from (other s) l new ≡ way_from (other s) l old = back-kept s old new h.links in
      let t1 : T s new ≡ T s old = ap (texts_work most_offset) (same-on-way s old new forth) in
      let t2 : T (other s) new ≡ T (other s) old = ap (texts_work most_offset) (same-on-way (other s) old new back) in
      let o1 : O s new ≡ O s old = same-left s old new forth in
      let o2 : O (other s) new ≡ O (other s) old = same-left (other s) old new back in
      omega (arith, by-sides s old, by-sides s new, failed, is, e2, t1, t2, o1, o2)

  flush-less : (s : Side) → Flushes did.Applied s old new → world_work new < world_work old
  flush-less s h =
      let k : FlushesOnWay s old new = fills-on-way s old new (sound s).ways h.0 h.1 in
      let e1 : E s new ≡ E s old = ap (λ x. entity_work most_offset x.state) h.0.entity in
      let e2 : E (other s) new ≡ E (other s) old = ap (λ x. entity_work most_offset x.entity.state) h.0.marks.spares.station in
      let t1 : T s new ≡ T s old = ap (texts_work most_offset) k.forth in
      let t2 : T (other s) new ≡ T (other s) old = ap (texts_work most_offset) (same-on-way (other s) old new k.back) in
      let o1 : O s new < O s old = k.left (rested s) (rests s) in
      let o2 : O (other s) new ≡ O (other s) old = same-left (other s) old new k.back in
      omega (arith, by-sides s old, by-sides s new, e1, e2, t1, t2, o1, o2)

  delivery-less : (s : Side) (l : Lane) → DeliversFrame s l old new → world_work new < world_work old
  delivery-less s l h =
      let k : HearsOnWay s h.given old new = delivers-on-way s l old new (sound s).ways h in
      let e1 : E s new ≡ E s old = ap (λ x. entity_work most_offset x.entity.state) h.station in
      let e2 : E (other s) new ≤ E (other s) old + texts_work most_offset h.given =
      work-hears-all most_offset (omega arith) h.given (station_at (other s) old).entity (station_at (other s) new).entity (sound (other s)).within h.heard in
      let part : texts_work most_offset h.given ≤ texts_work most_offset k.gone = work-part most_offset h.given k.gone k.part in
      let t1 : T s old ≡ texts_work most_offset k.gone + T s new = sym (work-swapped most_offset (on_way_from s old) (k.gone ++ on_way_from s new) k.takes.forth)
      ∙ work-append most_offset k.gone (on_way_from s new) in
      let t2 : T (other s) new ≡ T (other s) old = ap (texts_work most_offset) (same-on-way (other s) old new k.takes.back) in
      let o1 : O s new + 1 ≡ O s old = k.takes.left in
      let o2 : O (other s) new ≡ O (other s) old = same-left (other s) old new k.takes.back in
      omega (arith, by-sides s old, by-sides s new, e1, e2, part, t1, t2, o1, o2)

  pub event-less : (e : Event) → IsOfSettling e → Steps e did.Applied old new → world_work new < world_work old
  event-less (event.Poll s) of_it (inl h) = poll-less s h
  event-less (event.Poll s) of_it (inr h) = failed-less s h
  event-less (event.Flush s) of_it h = flush-less s h
  event-less (event.Deliver s l) of_it h = delivery-less s l h
  event-less (event.Put s source destination) of_it h = absurd of_it
  event-less (event.Cancel s id) of_it h = absurd of_it
  event-less (event.Suspend s id) of_it h = absurd of_it
  event-less (event.Resume s id) of_it h = absurd of_it
  event-less (event.Prompt s id keep_alive) of_it h = absurd of_it
  event-less (event.Tick s now) of_it h = absurd of_it
  event-less (event.Strike s l) of_it h = absurd of_it
  event-less (event.Damage s l octets) of_it h = absurd of_it
