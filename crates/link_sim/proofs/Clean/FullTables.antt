-- If PDUs are dropped for lack of room, the table of their entity is full.
use Rattle.std.proofs.Common.{◌≡◌, ◌≢◌, ℕ, ◌+◌, ◌≤◌, ◌==◌, ◌++◌, List, [], ◌∷◌, length, get_or, Option, inl, inr, refl, sym, ap, subst, ◌∙◌, arith, length-append}
use Rattle.std.proofs.lemmas.Bool.{cases_Bool, eqb-true, eqb-false}
use Rattle.std.proofs.lemmas.List.{get_or-set_other}
use Rattle.cfdp_header.specs.declared.value.Header.{Header}
use Rattle.cfdp_header.specs.declared.value.TransactionId.{TransactionId}
use Rattle.cfdp_directives.specs.declared.pdu.addressing.Addressing.{Addressing}
use Rattle.cfdp_directives.specs.Pdu.Addressing.{addressing_of as addressing_in}
use Rattle.cfdp_directives.specs.Pdu.Content.{Content}
use Rattle.cfdp_directives.specs.User.Put.{Put}
use Rattle.cfdp_store.specs.declared.stored.Stored.TheVariants.{Refused}
use Rattle.cfdp_entity.specs.declared.request.Request.{Request}
use Rattle.cfdp_entity.specs.declared.request.Request.TheVariants as calls
use Rattle.cfdp_entity.specs.declared.error.EntityDrop.{EntityDrop}
use Rattle.cfdp_entity.specs.declared.error.EntityDrop.TheVariants as drops
use Rattle.aos_frame.specs.declared.config.Lane.{Lane}
use Rattle.cfd_bits.specs.Counting.{raised}
use Rattle.cfdp_entity.specs.Entity.{EntityState, Counted, counted}
use Rattle.cfdp_entity.specs.Errors.{drop_number}
use Rattle.cfdp_entity.specs.History.{Leads, KeepsRecords}
use Rattle.cfdp_entity.specs.Opening.{opens}
use Rattle.cfdp_entity.specs.Polling.{Turn, Stray, Place, Rests, turn, served}
use Rattle.cfdp_entity.specs.Seen.{Seen}
use Rattle.cfdp_entity.specs.Table.{TableState, most_records}
use Rattle.cfdp_station.specs.Station.{StationState}
use Rattle.link_sim.specs.declared.event.Event.{Event}
use Rattle.link_sim.specs.declared.event.Event.TheVariants as event
use Rattle.link_sim.specs.declared.event.Applied.{Applied}
use Rattle.link_sim.specs.declared.event.Applied.TheVariants as did
use Rattle.station_pair.specs.declared.refusal.Refusal.TheVariants as refusal
use Rattle.station_pair.specs.declared.side.Side.{Side}
use Rattle.station_pair.specs.declared.side.Side.TheVariants.{One, Two}
use Rattle.link_sim.specs.Between.{Pdu}
use Rattle.link_sim.specs.EveryPut.{KeepCourse}
use Rattle.link_sim.specs.Known.{AreKnown}
use Rattle.link_sim.specs.Observed.{seen}
use Rattle.link_sim.specs.Settling.{DropsWhereFull, no_room}
use Rattle.station_pair.specs.Stations.{other}
use Rattle.link_sim.specs.Sound.{IsSound}
use Rattle.link_sim.specs.Theorem.{put_of}
use Rattle.link_sim.specs.World.State.{WorldState, entity_at, on_way_from, station_at}
use Rattle.link_sim.specs.World.Steps.{Stays, Puts, Calls, Polls, Flushes, Delivers, Strikes, Damages, DeliversFrame, Steps}
use Rattle.link_sim.proofs.Clean.Given.{served-drops}
use Rattle.link_sim.proofs.Clean.Puts.{IsCourseFrom, course-from}
use Rattle.link_sim.proofs.Events.Keeping.{both}
use Rattle.link_sim.proofs.EveryPut.Known.{Continues, stepped-on, spoiled-on, hears-known, part-known}
use Rattle.link_sim.proofs.EveryPut.Pdus.{HearsEach, InTwo, PartSpelled, hears-each, part-spelled, spelled-split}
use Rattle.link_sim.proofs.EveryPut.Routes.{DropsNew, HeardSo, heard-so}
use Rattle.link_sim.proofs.Lanes.Swapping.{SwapsPdus, swapped-known, swapped-none, swapped-spelled}
use Rattle.link_sim.proofs.OnWay.World.{HearsOnWay, delivers-on-way}

-- ---- one PDU
-- No record went, and if a count of those that found no room differs, the table is full.
pub record GrowsFull (old new : EntityState) : Type 0 where
  pub grows : length old.table.records ≤ length new.table.records
  pub full : get_or new.drops 15 0 ≢ get_or old.drops 15 0 → most_records ≤ length new.table.records

fills-none : (e : EntityState) → GrowsFull e e
fills-none e = record { grows = omega arith; full = λ differs. absurd (differs refl) }

fills-both : (a b c : EntityState) → GrowsFull a b → GrowsFull b c → GrowsFull a c
fills-both a b c one two = record {
  grows = (let p : length a.table.records ≤ length b.table.records = one.grows in let q : length b.table.records ≤ length c.table.records = two.grows in omega (arith, p, q));
  full = λ differs. elim (cases_Bool (get_or c.drops 15 0 == get_or b.drops 15 0)) [
    | inl same ↦ (
        let is : get_or c.drops 15 0 ≡ get_or b.drops 15 0 = eqb-true (get_or c.drops 15 0) (get_or b.drops 15 0) same in
        let p : most_records ≤ length b.table.records = one.full (λ e. differs (is ∙ e)) in
        let q : length b.table.records ≤ length c.table.records = two.grows in
        omega (arith, p, q))
    | inr other_ ↦ two.full (eqb-false (get_or c.drops 15 0) (get_or b.drops 15 0) other_)
  ];
}

-- if no drop was counted
fills-same : (old new : EntityState) → length old.table.records ≤ length new.table.records → new.drops ≡ old.drops → GrowsFull old new
fills-same old new grows same = record { grows = grows; full = λ differs. absurd (differs (ap (λ l. get_or l 15 0) same)) }

-- another cause is counted
other-cause : (by : EntityDrop) (xs : List ℕ) → drop_number by ≢ 15 → get_or (counted by xs) 15 0 ≡ get_or xs 15 0
other-cause by xs not_ = get_or-set_other xs (drop_number by) 15 (raised (get_or xs (drop_number by) 0)) 0 (λ e. not_ (sym e))

dropped-fills : (h : Header) (v : Content) (old new : Counted) → DropsNew h v old new → GrowsFull old.state new.state
dropped-fills h v old new d = record {
  grows = (let same : length new.state.table.records ≡ length old.state.table.records = ap (λ (e : EntityState). length e.table.records) d.is in omega (arith, same));
  full = λ differs. elim (cases_Bool (drop_number d.by == 15)) [
    | inl is ↦ subst (λ (e : EntityState). most_records ≤ length e.table.records) (sym d.is) (d.full (eqb-true (drop_number d.by) 15 is))
    | inr not_ ↦ absurd (differs (ap (λ (e : EntityState). get_or e.drops 15 0) d.is ∙ other-cause d.by old.state.drops (eqb-false (drop_number d.by) 15 not_)))
  ];
}

module _ (stays : (old new : TableState) → Leads old new → KeepsRecords old.records new.records) (put_of : TransactionId → Option Put) (theirs : EntityState) (forth : List Pdu) where
  module _ (back : List Pdu) (h : Header) (v : Content) (old new : Counted) where
    -- as long as it was
    long-fills : new.state.drops ≡ old.state.drops → Continues old.state new.state → GrowsFull old.state new.state
    long-fills drops c = let long : length new.state.table.records ≡ length old.state.table.records = c.records.long in fills-same old.state new.state (omega (arith, long)) drops

    heard-fills : HeardSo h v old new → GrowsFull old.state new.state
    heard-fills (inl s) = long-fills (ap (λ (e : EntityState). e.drops) s.steps.steps) (stepped-on stays put_of theirs forth back h v old new s)
    heard-fills (inr (inl o)) =
        let a : Addressing = addressing_in h in
        let st : TableState = old.state.table in
        let s : Seen = (opens o.opens.begun o.opens.stored st.policy.times st.files h.large v a).seen in
        let long : length new.state.table.records ≡ length st.records + 1 = ap (λ (e : EntityState). length e.table.records) o.opens.opens ∙ length-append st.records ((a.id, s) ∷ []) in
        fills-same old.state new.state (omega (arith, long)) (ap (λ (e : EntityState). e.drops) o.opens.opens)
    heard-fills (inr (inr (inl d))) = dropped-fills h v old new d
    heard-fills (inr (inr (inr s))) =
        let long : length new.state.table.records ≡ length old.state.table.records = (spoiled-on stays put_of theirs forth back h v old new s).records.long in
        record {
          grows = omega (arith, long);
          full = λ differs. absurd (differs (ap (λ (e : EntityState). get_or e.drops 15 0) s.finds.counted ∙ other-cause drops.NoMemory old.state.drops (λ e. omega (arith, e))));
        }

  -- ---- those that are heard, in turn
  pub each-fills : (pdus back : List Pdu) (old new : Counted) → HearsEach pdus old new → AreKnown put_of old.state theirs forth (pdus ++ back) → GrowsFull old.state new.state
  each-fills [] back old new h k = subst (λ (c : Counted). GrowsFull old.state c.state) (sym h) (fills-none old.state)
  each-fills (p ∷ pdus) back old new (mid, here, behind) k =
      let so : HeardSo p.0 p.1 old mid = heard-so put_of theirs forth p.0 p.1 old mid k.0 k.1.directed.0 here in
      let known : AreKnown put_of mid.state theirs forth (pdus ++ back) = hears-known stays put_of theirs forth (pdus ++ back) p.0 p.1 old mid here k in
      fills-both old.state mid.state new.state (heard-fills (pdus ++ back) p.0 p.1 old mid so) (each-fills pdus back mid new behind known)

-- ---- a delivery
module _ (stays : (old new : TableState) → Leads old new → KeepsRecords old.records new.records) (old new : WorldState) (sound : IsSound old) (course : KeepCourse old) where
  delivered-fills : (s : Side) (l : Lane) → DeliversFrame s l old new → GrowsFull (entity_at (other s) old) (entity_at (other s) new)
  delivered-fills s l h =
      let P : TransactionId → Option Put = put_of (seen old) in
      let here : EntityState = entity_at s old in
      let c0 : Counted = (station_at (other s) old).entity in
      let c1 : Counted = (station_at (other s) new).entity in
      let c : IsCourseFrom s old = course-from s old course in
      let on : HearsOnWay s h.given old new = delivers-on-way s l old new (sound s).ways h in
      let rest : List (List ℕ) = on_way_from s new in
      let swaps : SwapsPdus (on.gone ++ rest) c.forth = swapped-spelled (on_way_from s old) (on.gone ++ rest) c.forth on.takes.forth c.spelled in
      let two : InTwo on.gone rest swaps.swapped = spelled-split on.gone rest swaps.swapped swaps.spelled in
      let part : PartSpelled h.given two.first = part-spelled h.given on.gone two.first on.part two.spelled in
      let known : AreKnown P here c0.state (part.part ++ two.rest) c.back =
      part-known P here c0.state part.part two.first two.rest c.back part.is
      (subst (λ l. AreKnown P here c0.state l c.back) two.joined (swapped-known c.forth swaps.swapped c.back c.back swaps.are (swapped-none c.back) P here c0.state c.known)) in
      each-fills stays P here c.back part.part two.rest c0 c1 (hears-each h.given part.part c0 c1 part.spelled h.heard) (known.1, known.0)

-- ---- an event
refused-drops : (t : Turn) (e : EntityState) → (served Refused t e).drops ≡ e.drops
refused-drops (Stray s strays) e = refl
refused-drops (Place place) e = refl
refused-drops Rests e = refl

-- No drop was counted at either station.
abbrev CountsNone : (old new : WorldState) → Type 0
CountsNone old new = (s : Side) → (entity_at s new).drops ≡ (entity_at s old).drops

none-full : (old new : WorldState) → CountsNone old new → DropsWhereFull old new
none-full old new same s differs = absurd (differs (ap (λ l. get_or l 15 0) (same s)))

same-none : (old new : WorldState) → new ≡ old → CountsNone old new
same-none old new is s = ap (λ w. (entity_at s w).drops) is

spared-none : (s : Side) (old new : WorldState) → (entity_at s new).drops ≡ (entity_at s old).drops → station_at (other s) new ≡ station_at (other s) old → CountsNone old new
spared-none s old new this that = both (λ t. (entity_at t new).drops ≡ (entity_at t old).drops) s this (ap (λ (x : StationState). x.entity.state.drops) that)

pub stays-full : (s : Side) (old new : WorldState) → Stays s old new → DropsWhereFull old new
stays-full s old new h = none-full old new (spared-none s old new (ap (λ (e : EntityState). e.drops) h.entity) h.links.spares.station)

module _ (old new : WorldState) where
  put-none : (d : Applied) (s : Side) (source destination : List ℕ) → Puts d s source destination old new → CountsNone old new
  put-none did.Applied s source destination h = spared-none s old new (ap (λ (e : EntityState). e.drops) h.accepts.opened) h.links.spares.station
  put-none did.Nothing s source destination h = absurd h
  put-none (did.Refused (refusal.Put by)) s source destination h = spared-none s old new (ap (λ (e : EntityState). e.drops) h.stays.entity) h.stays.links.spares.station
  put-none (did.Refused (refusal.Call by)) s source destination h = absurd h
  put-none (did.Refused refusal.LossRunTooLong) s source destination h = absurd h
  put-none (did.Refused refusal.NotDamaged) s source destination h = absurd h

  call-none : (d : Applied) (s : Side) (c : Request) (id : TransactionId) → Calls d s c id old new → CountsNone old new
  call-none did.Applied s c id h = spared-none s old new (ap (λ (e : EntityState). e.drops) h.called.called) h.links.spares.station
  call-none did.Nothing s c id h = absurd h
  call-none (did.Refused (refusal.Put by)) s c id h = absurd h
  call-none (did.Refused (refusal.Call by)) s c id h = same-none old new h.same
  call-none (did.Refused refusal.LossRunTooLong) s c id h = absurd h
  call-none (did.Refused refusal.NotDamaged) s c id h = absurd h

  poll-none : (d : Applied) (s : Side) → Polls d s old new → CountsNone old new
  poll-none did.Applied s (inl h) = spared-none s old new (ap (λ (e : EntityState). e.drops) h.served ∙ served-drops (turn (entity_at s old)) (entity_at s old)) h.marks.spares.station
  poll-none did.Applied s (inr h) = spared-none s old new (ap (λ (e : EntityState). e.drops) h.served ∙ refused-drops (turn (entity_at s old)) (entity_at s old)) h.links.spares.station
  poll-none did.Nothing s h = same-none old new h.1
  poll-none (did.Refused by) s h = absurd h

  flush-none : (d : Applied) (s : Side) → Flushes d s old new → CountsNone old new
  flush-none did.Applied s h = spared-none s old new (ap (λ (c : Counted). c.state.drops) h.0.entity) h.0.marks.spares.station
  flush-none did.Nothing s h = same-none old new h.1
  flush-none (did.Refused by) s h = absurd h

  strike-none : (d : Applied) (s : Side) (l : Lane) → Strikes d s l old new → CountsNone old new
  strike-none did.Applied s l h = spared-none s old new (ap (λ (x : StationState). x.entity.state.drops) h.station) h.spares.station
  strike-none did.Nothing s l h = same-none old new h.1
  strike-none (did.Refused (refusal.Put by)) s l h = absurd h
  strike-none (did.Refused (refusal.Call by)) s l h = absurd h
  strike-none (did.Refused refusal.LossRunTooLong) s l h = same-none old new h.same
  strike-none (did.Refused refusal.NotDamaged) s l h = absurd h

  damage-none : (d : Applied) (s : Side) (l : Lane) (octets : List ℕ) → Damages d s l octets old new → CountsNone old new
  damage-none did.Applied s l octets h =
      both (λ t. (entity_at t new).drops ≡ (entity_at t old).drops) s (ap (λ (x : StationState). x.entity.state.drops) h.loses.station)
      (ap (λ (c : Counted). c.state.drops) h.loses.entity)
  damage-none did.Nothing s l octets h = same-none old new h.1
  damage-none (did.Refused (refusal.Put by)) s l octets h = absurd h
  damage-none (did.Refused (refusal.Call by)) s l octets h = absurd h
  damage-none (did.Refused refusal.LossRunTooLong) s l octets h = same-none old new h.same
  damage-none (did.Refused refusal.NotDamaged) s l octets h = same-none old new h.same

-- the record table of each station is no larger than it may be
few-at : (w : WorldState) → KeepCourse w → (s : Side) → length (entity_at s w).table.records ≤ most_records
few-at w k One = k.known.0.few
few-at w k Two = k.known.1.few

module _ (stays : (old new : TableState) → Leads old new → KeepsRecords old.records new.records) (old new : WorldState) (sound : IsSound old) (course : KeepCourse old)
    (course_then : KeepCourse new) where
  deliver-full : (d : Applied) (s : Side) (l : Lane) → Delivers d s l old new → DropsWhereFull old new
  deliver-full did.Applied s l h =
      both (λ t. no_room t new ≢ no_room t old → length (entity_at t new).table.records ≡ most_records) s
      (λ differs. absurd (differs (ap (λ (x : StationState). get_or x.entity.state.drops 15 0) h.station)))
      (λ differs. (
      let p : most_records ≤ length (entity_at (other s) new).table.records = (delivered-fills stays old new sound course s l h).full differs in
      let q : length (entity_at (other s) new).table.records ≤ most_records = few-at new course_then (other s) in
      omega (arith, p, q)))
  deliver-full did.Nothing s l h = none-full old new (same-none old new h.1)
  deliver-full (did.Refused by) s l h = absurd h

  pub event-full : (e : Event) (d : Applied) → Steps e d old new → DropsWhereFull old new
  event-full (event.Put s source destination) d h = none-full old new (put-none old new d s source destination h)
  event-full (event.Cancel s id) d h = none-full old new (call-none old new d s calls.Cancel id h)
  event-full (event.Suspend s id) d h = none-full old new (call-none old new d s calls.Suspend id h)
  event-full (event.Resume s id) d h = none-full old new (call-none old new d s calls.Resume id h)
  event-full (event.Prompt s id keep_alive) d h = none-full old new (call-none old new d s (calls.Prompt keep_alive) id h)
  event-full (event.Poll s) d h = none-full old new (poll-none old new d s h)
  event-full (event.Flush s) d h = none-full old new (flush-none old new d s h)
  event-full (event.Tick s now) did.Applied h = none-full old new (spared-none s old new (ap (λ (e : EntityState). e.drops) h.table) h.links.spares.station)
  event-full (event.Tick s now) did.Nothing h = absurd h
  event-full (event.Tick s now) (did.Refused by) h = absurd h
  event-full (event.Deliver s l) d h = deliver-full d s l h
  event-full (event.Strike s l) d h = none-full old new (strike-none old new d s l h)
  event-full (event.Damage s l octets) d h = none-full old new (damage-none old new d s l octets h)
