-- No event of a turn makes a count fewer that shows a shortage. So if they are the same after several
-- events, they are the same after each.
use Rattle.std.proofs.Common.{◌≡◌, ◌⊎◌, inl, inr, ℕ, zero, suc, ◌+◌, ◌-◌, ◌^◌, ◌<◌, ◌≤◌, ◌==◌, not, Bool, true, false, List, [], ◌∷◌, length, take, get_or, Option, Some, None, refl, sym, ap, subst, ◌∙◌, arith, get_or-set_same, get_or-set_other}
use Rattle.std.specs.Prelude.{nat_lt, slice_set}
use Rattle.std.proofs.lemmas.Bool.{cases_lt, eqb-false, eqb-true}
use Rattle.aos_frame.specs.declared.config.Lane.{Lane}
use Rattle.aos_frame.specs.declared.config.Lane.TheVariants.{Directives, Data}
use Rattle.cfd_bits.specs.Counting.{raised}
use Rattle.link_stack.specs.declared.drops.LinkDrop.{LinkDrop}
use Rattle.link_stack.specs.declared.drops.LinkDrop.TheVariants as link_drops
use Rattle.link_stack.specs.Drops.{all_counted, count_of, counted, drop_number}
use Rattle.link_stack.specs.Upward.{LinkReceiverState, UpState, drop_count, drops_of, frame_read, lane_up}
use Rattle.cfdp_header.specs.declared.value.Header.{Header}
use Rattle.cfdp_directives.specs.declared.pdu.error.PduError.{PduError}
use Rattle.cfdp_directives.specs.declared.pdu.codes.Acknowledged.TheVariants as acknowledged
use Rattle.cfdp_directives.specs.Pdu.Addressing.{addressing_of}
use Rattle.cfdp_directives.specs.declared.pdu.addressing.Addressing.{Addressing}
use Rattle.cfdp_directives.specs.Pdu.Content.{Content, FileData, Metadata, Eof, Finished, Ack, Nak, Prompt, KeepAlive}
use Rattle.cfdp_directives.specs.Pdu.Direction.{direction_fits, is_for}
use Rattle.cfdp_directives.specs.Pdu.Faults.{pdu_fault}
use Rattle.cfdp_store.specs.declared.stored.Stored.{Stored}
use Rattle.cfdp_store.specs.declared.stored.Stored.TheVariants as storeds
use Rattle.cfdp_store.specs.Stores.{Counts}
use Rattle.cfdp_entity.specs.declared.error.EntityDrop.{EntityDrop}
use Rattle.cfdp_entity.specs.declared.error.EntityDrop.TheVariants as drops
use Rattle.cfdp_entity.specs.Entity.{Counted, EntityState, is_forgotten}
use Rattle.cfdp_entity.specs.Entity as entity
use Rattle.cfdp_entity.specs.Errors as errors
use Rattle.cfdp_entity.specs.Hearing.{DropsBy, DropsOctets, FindsNoMemory, OpensOne, StepsAt, Takes, names_no_file, opens_record, queued, queues, route, route_by, route_new, route_unplaced}
use Rattle.cfdp_entity.specs.Polling.{Turn, Stray, Place, Rests, served, turn}
use Rattle.cfdp_entity.specs.Strays.{StrayAck, most_strays, over_ack, unknown_ack}
use Rattle.cfdp_entity.specs.Table.{most_records, place_of}
use Rattle.cfdp_station.specs.Station.{StationState}
use Rattle.cfdp_station.specs.Taking.{GivesPdus, HearsAll, HearsPdu}
use Rattle.station_pair.specs.declared.side.Side.{Side}
use Rattle.station_pair.specs.declared.side.Side.TheVariants.{One, Two}
use Rattle.station_pair.specs.declared.settle_error.SettleError.{SettleError}
use Rattle.station_pair.specs.declared.settle_error.SettleError.TheVariants.{NoMemory, StoreFailed, TableFull}
use Rattle.station_pair.specs.Stations.{other}
use Rattle.link_sim.specs.declared.event.Applied.{Applied}
use Rattle.link_sim.specs.declared.event.Applied.TheVariants as did
use Rattle.link_sim.specs.declared.event.Event.{Event}
use Rattle.link_sim.specs.declared.event.Event.TheVariants as event
use Rattle.link_sim.specs.Settling.{CountsStay, CountsStayAt, IsSpared, KeepsAll, all_shortages, shortages}
use Rattle.link_sim.specs.World.State.{WorldState, lane_from, station_at}
use Rattle.link_sim.specs.World.Steps.{Delivers, DeliversFrame, FailsSource, Flushes, Polls, SendsOne, Steps, Strikes, TellsTime, oldest_of}
use Rattle.link_sim.proofs.Clean.Given.{served-drops}
use Rattle.link_sim.proofs.Events.Keeping.{both}
use Rattle.link_sim.proofs.Lanes.Each.{either-lane}
use Rattle.station_pair.specs.declared.refusal.Refusal.TheVariants as refusal

-- ---- events of a turn, except that the time is given
abbrev pub IsOfTurn : Event → Type 0
IsOfTurn (event.Poll s) = Unit {0}
IsOfTurn (event.Flush s) = Unit {0}
IsOfTurn (event.Deliver s l) = Unit {0}
IsOfTurn (event.Strike s l) = Unit {0}
IsOfTurn e = ⊥

-- ---- counts
beyond : (xs : List ℕ) (k : ℕ) → length xs ≤ k → get_or xs k 0 ≡ 0
beyond [] zero h = refl
beyond [] (suc k) h = refl
beyond (x ∷ xs) zero h = absurd (omega (arith, h))
beyond (x ∷ xs) (suc k) h = beyond xs k (omega (arith, h))

set-grows : (xs : List ℕ) (k n : ℕ) → get_or xs n 0 ≤ get_or (slice_set xs k (raised (get_or xs k 0))) n 0
set-grows xs k n = elim (n == k) as (λ b. (n == k) ≡ b → get_or xs n 0 ≤ get_or (slice_set xs k (raised (get_or xs k 0))) n 0) [
  | true ↦ λ e. (let is : n ≡ k = eqb-true n k e in subst (λ i. get_or xs i 0 ≤ get_or (slice_set xs k (raised (get_or xs k 0))) i 0) (sym is) (elim (cases_lt k (length xs)) [
    | inl low ↦ (let same = get_or-set_same xs k (raised (get_or xs k 0)) 0 low in omega (arith, same))
    | inr far ↦ (let none = beyond xs k far in omega (arith, none))
  ]))
  | false ↦ λ e. (let same = get_or-set_other xs k n (raised (get_or xs k 0)) 0 (eqb-false n k e) in omega (arith, same))
] refl

-- ---- an entity
-- What shows a shortage of it, and of its stores.
record Grows (old new : Counted) : Type 0 where
  memory : get_or old.state.drops 16 0 ≤ get_or new.state.drops 16 0
  table : get_or old.state.drops 15 0 ≤ get_or new.state.drops 15 0
  outbox : old.outbox_failures ≤ new.outbox_failures
  inbox : old.inbox_failures ≤ new.inbox_failures

same-grows : (old new : Counted) → new.state.drops ≡ old.state.drops → old.outbox_failures ≤ new.outbox_failures → old.inbox_failures ≤ new.inbox_failures → Grows old new
same-grows old new drops outbox inbox = record {
  memory = (let same = ap (λ l. get_or l 16 0) drops in omega (arith, same));
  table = (let same = ap (λ l. get_or l 15 0) drops in omega (arith, same));
  outbox = outbox;
  inbox = inbox;
}

equal-grows : (old new : Counted) → new ≡ old → Grows old new
equal-grows old new is = subst (λ (c : Counted). Grows old c) (sym is) (same-grows old old refl (omega arith) (omega arith))

both-grows : (a b c : Counted) → Grows a b → Grows b c → Grows a c
both-grows a b c one two = record {
  memory = (let p : get_or a.state.drops 16 0 ≤ get_or b.state.drops 16 0 = one.memory in let q : get_or b.state.drops 16 0 ≤ get_or c.state.drops 16 0 = two.memory in omega (arith, p, q));
  table = (let p : get_or a.state.drops 15 0 ≤ get_or b.state.drops 15 0 = one.table in let q : get_or b.state.drops 15 0 ≤ get_or c.state.drops 15 0 = two.table in omega (arith, p, q));
  outbox = (let p : a.outbox_failures ≤ b.outbox_failures = one.outbox in let q : b.outbox_failures ≤ c.outbox_failures = two.outbox in omega (arith, p, q));
  inbox = (let p : a.inbox_failures ≤ b.inbox_failures = one.inbox in let q : b.inbox_failures ≤ c.inbox_failures = two.inbox in omega (arith, p, q));
}

dropped-grows : (by : EntityDrop) (old new : Counted) → new ≡ record old { state = entity.dropped by old.state } → Grows old new
dropped-grows by old new is = subst (λ (c : Counted). Grows old c) (sym is) (record {
  memory = set-grows old.state.drops (errors.drop_number by) 16;
  table = set-grows old.state.drops (errors.drop_number by) 15;
  outbox = omega arith;
  inbox = omega arith;
})

counts-grow : (stored : Stored) (before after : ℕ) → Counts stored before after → before ≤ after
counts-grow storeds.Done before after h = h
counts-grow storeds.Refused before after h = h.0

-- a record made its step, or one was opened, or found no memory
steps-grow : (place : ℕ) (large : Bool) (v : Content) (old new : Counted) → StepsAt place large v old new → Grows old new
steps-grow place large v old new t =
    same-grows old new (ap (λ (e : EntityState). e.drops) t.steps) (let same : new.outbox_failures ≡ old.outbox_failures = t.outbox in omega (arith, same)) (counts-grow t.stored old.inbox_failures new.inbox_failures t.counts)

opens-grow : (a : Addressing) (large : Bool) (v : Content) (old new : Counted) → OpensOne a large v old new → Grows old new
opens-grow a large v old new t =
    same-grows old new (ap (λ (e : EntityState). e.drops) t.opens) (let same : new.outbox_failures ≡ old.outbox_failures = t.outbox in omega (arith, same)) (counts-grow t.stored old.inbox_failures new.inbox_failures t.counts.1)

spoils-grow : (place : ℕ) (v : Content) (old new : Counted) → FindsNoMemory place v old new → Grows old new
spoils-grow place v old new t = record {
  memory = (
      let is : get_or new.state.drops 16 0 ≡ get_or (slice_set old.state.drops 16 (raised (get_or old.state.drops 16 0))) 16 0 = ap (λ (e : EntityState). get_or e.drops 16 0) t.counted in
      let more : get_or old.state.drops 16 0 ≤ get_or (slice_set old.state.drops 16 (raised (get_or old.state.drops 16 0))) 16 0 = set-grows old.state.drops 16 16 in
      omega (arith, is, more));
  table = (
      let is : get_or new.state.drops 15 0 ≡ get_or (slice_set old.state.drops 16 (raised (get_or old.state.drops 16 0))) 15 0 = ap (λ (e : EntityState). get_or e.drops 15 0) t.counted in
      let more : get_or old.state.drops 15 0 ≤ get_or (slice_set old.state.drops 16 (raised (get_or old.state.drops 16 0))) 15 0 = set-grows old.state.drops 16 15 in
      omega (arith, is, more));
  outbox = (let same : new.outbox_failures ≡ old.outbox_failures = t.outbox in omega (arith, same));
  inbox = (let same : new.inbox_failures ≡ old.inbox_failures = t.inbox in omega (arith, same));
}

-- whether a PDU was taken or dropped on a route
abbrev Leads : {R : Type 0} → (old new : Counted) → (takes : R → Type 0) → (drops_by : R → EntityDrop → Type 0) → R → Type 0
Leads old new takes drops_by r = (takes r → Grows old new) × ((by : EntityDrop) → drops_by r by → Grows old new)

module _ (h : Header) (old new : Counted) where
  opens-leads : (v : Content) (b : Bool) → nat_lt (length old.state.table.records) most_records ≡ b → Leads old new (λ r. Takes r h v old new) (λ r by. DropsBy r by v old new) (opens_record old.state)
  opens-leads v true is = (
    λ t. (let f : Takes (opens_record old.state) h v old new → OpensOne (addressing_of h) h.large v old new = rw is (λ o. o) in opens-grow (addressing_of h) h.large v old new (f t)),
    λ by t. (let f : DropsBy (opens_record old.state) by v old new → (new ≡ record old { state = entity.dropped drops.NoMemory old.state }) = rw is (λ o. o.1) in dropped-grows drops.NoMemory old new (f t)),
  )
  opens-leads v false is = (
    λ t. (let f : Takes (opens_record old.state) h v old new → ⊥ = rw is (λ o. o) in absurd (f t)),
    λ by t. (let f : DropsBy (opens_record old.state) by v old new → (new ≡ record old { state = entity.dropped drops.TableFull old.state }) = rw is (λ o. o.1) in dropped-grows drops.TableFull old new (f t)),
  )

  queues-leads : (v : Content) (s : StrayAck) (b : Bool) → nat_lt (length old.state.strays) most_strays ≡ b → Leads old new (λ r. Takes r h v old new) (λ r by. DropsBy r by v old new) (queues s old.state)
  queues-leads v s true is = (
    λ t. (let f : Takes (queues s old.state) h v old new → (new ≡ record old { state = queued s old.state }) = rw is (λ o. o) in
        subst (λ (c : Counted). Grows old c) (sym (f t)) (same-grows old (record old { state = queued s old.state }) refl (omega arith) (omega arith))),
    λ by t. (let f : DropsBy (queues s old.state) by v old new → ⊥ = rw is (λ o. o) in absurd (f t)),
  )
  queues-leads v s false is = (
    λ t. (let f : Takes (queues s old.state) h v old new → ⊥ = rw is (λ o. o) in absurd (f t)),
    λ by t. (let f : DropsBy (queues s old.state) by v old new → (new ≡ record old { state = entity.dropped drops.TableFull old.state }) = rw is (λ o. o.1) in dropped-grows drops.TableFull old new (f t)),
  )

  new-leads : (v : Content) → Leads old new (λ r. Takes r h v old new) (λ r by. DropsBy r by v old new) (route_new h v old.state)
  new-leads (FileData offset bytes) = opens-leads (FileData offset bytes) (nat_lt (length old.state.table.records) most_records) refl
  new-leads (Metadata kind size source destination options) = opens-leads (Metadata kind size source destination options) (nat_lt (length old.state.table.records) most_records) refl
  new-leads (Eof condition checksum size tlvs) = opens-leads (Eof condition checksum size tlvs) (nat_lt (length old.state.table.records) most_records) refl
  new-leads (Finished condition delivery status tlvs) = queues-leads (Finished condition delivery status tlvs) (unknown_ack h condition) (nat_lt (length old.state.strays) most_strays) refl
  new-leads (Ack of condition status) = (λ t. absurd t, λ by t. dropped-grows drops.Unknown old new t.1)
  new-leads (Nak start end pairs) = (λ t. absurd t, λ by t. dropped-grows drops.Unknown old new t.1)
  new-leads (Prompt keep_alive) = (λ t. absurd t, λ by t. dropped-grows drops.Unknown old new t.1)
  new-leads (KeepAlive progress) = (λ t. absurd t, λ by t. dropped-grows drops.Unknown old new t.1)

  unplaced-leads : (v : Content) (b : Bool) → Leads old new (λ r. Takes r h v old new) (λ r by. DropsBy r by v old new) (route_unplaced b h v old.state)
  unplaced-leads v false = new-leads v
  unplaced-leads (Eof condition checksum size tlvs) true = queues-leads (Eof condition checksum size tlvs) (over_ack h acknowledged.Eof condition) (nat_lt (length old.state.strays) most_strays) refl
  unplaced-leads (Finished condition delivery status tlvs) true = queues-leads (Finished condition delivery status tlvs) (over_ack h acknowledged.Finished condition) (nat_lt (length old.state.strays) most_strays) refl
  unplaced-leads (FileData offset bytes) true = (λ t. equal-grows old new t, λ by t. absurd t)
  unplaced-leads (Metadata kind size source destination options) true = (λ t. equal-grows old new t, λ by t. absurd t)
  unplaced-leads (Ack of condition status) true = (λ t. equal-grows old new t, λ by t. absurd t)
  unplaced-leads (Nak start end pairs) true = (λ t. equal-grows old new t, λ by t. absurd t)
  unplaced-leads (Prompt keep_alive) true = (λ t. equal-grows old new t, λ by t. absurd t)
  unplaced-leads (KeepAlive progress) true = (λ t. equal-grows old new t, λ by t. absurd t)

  place-leads : (v : Content) (o : Option ℕ) → Leads old new (λ r. Takes r h v old new) (λ r by. DropsBy r by v old new) (route_by o h v old.state)
  place-leads v (Some place) = (λ t. steps-grow place h.large v old new t, λ by t. spoils-grow place v old new t.1)
  place-leads v None = unplaced-leads v (is_forgotten old.state h.id)

  module _ (v : Content) where
    named-leads : (b : Bool) → direction_fits h v ≡ true → is_for old.state.config.entity old.state.config.peer h ≡ true → names_no_file v ≡ b → Leads old new (λ r. Takes r h v old new) (λ r by. DropsBy r by v old new) (route h v old.state)
    named-leads true fits for_us is = (
      λ t. (let f : Takes (route h v old.state) h v old new → ⊥ = rw (fits, for_us, is) (λ o. o) in absurd (f t)),
      λ by t. (let f : DropsBy (route h v old.state) by v old new → (new ≡ record old { state = entity.dropped drops.NoFile old.state }) = rw (fits, for_us, is) (λ o. o.1) in dropped-grows drops.NoFile old new (f t)),
    )
    named-leads false fits for_us is = (
      λ t. (let f : Takes (route h v old.state) h v old new → Takes (route_by (place_of h.id old.state.table.records) h v old.state) h v old new = rw (fits, for_us, is) (λ o. o) in (place-leads v (place_of h.id old.state.table.records)).0 (f t)),
      λ by t. (let f : DropsBy (route h v old.state) by v old new → DropsBy (route_by (place_of h.id old.state.table.records) h v old.state) by v old new = rw (fits, for_us, is) (λ o. o) in (place-leads v (place_of h.id old.state.table.records)).1 by (f t)),
    )

    for-leads : (b : Bool) → direction_fits h v ≡ true → is_for old.state.config.entity old.state.config.peer h ≡ b → Leads old new (λ r. Takes r h v old new) (λ r by. DropsBy r by v old new) (route h v old.state)
    for-leads true fits is = named-leads (names_no_file v) fits is refl
    for-leads false fits is = (
      λ t. (let f : Takes (route h v old.state) h v old new → ⊥ = rw (fits, is) (λ o. o) in absurd (f t)),
      λ by t. (let f : DropsBy (route h v old.state) by v old new → (new ≡ record old { state = entity.dropped drops.NotForUs old.state }) = rw (fits, is) (λ o. o.1) in dropped-grows drops.NotForUs old new (f t)),
    )

    fits-leads : (b : Bool) → direction_fits h v ≡ b → Leads old new (λ r. Takes r h v old new) (λ r by. DropsBy r by v old new) (route h v old.state)
    fits-leads true is = for-leads (is_for old.state.config.entity old.state.config.peer h) is refl
    fits-leads false is = (
      λ t. (let f : Takes (route h v old.state) h v old new → ⊥ = rw is (λ o. o) in absurd (f t)),
      λ by t. (let f : DropsBy (route h v old.state) by v old new → (new ≡ record old { state = entity.dropped drops.WrongDirection old.state }) = rw is (λ o. o.1) in dropped-grows drops.WrongDirection old new (f t)),
    )

    route-leads : Leads old new (λ r. Takes r h v old new) (λ r by. DropsBy r by v old new) (route h v old.state)
    route-leads = fits-leads (direction_fits h v) refl

octets-grow : (fault : Option PduError) (pdu : List ℕ) (by : EntityDrop) (old new : Counted) → DropsOctets fault pdu by old new → Grows old new
octets-grow (Some e) pdu by old new t = dropped-grows (drops.Pdu e) old new t.1
octets-grow None pdu by old new t = (route-leads t.header old new t.content).1 by t.drops

hears-grows : (pdus : List (List ℕ)) (old new : Counted) → HearsAll pdus old new → Grows old new
hears-grows [] old new h = equal-grows old new h
hears-grows (pdu ∷ pdus) old new (mid, here, more) = both-grows old mid new (one here) (hears-grows pdus mid new more)
  where
    one : HearsPdu pdu old mid → Grows old mid
    one (inl t) = (route-leads t.header old mid t.content).0 t.takes
    one (inr t) = octets-grow (pdu_fault pdu) pdu t.0 old mid t.1

-- ---- a lane
counted-grows : (counts : List ℕ) (by : LinkDrop) → count_of counts 11 ≤ count_of (counted counts by) 11
unfolding counted
counted-grows counts by = set-grows counts (drop_number by - 1) 10

all-grow : (counts : List ℕ) (by : List LinkDrop) → count_of counts 11 ≤ count_of (all_counted counts by) 11
all-grow counts [] = omega arith
all-grow counts (d ∷ by) =
    let one = counted-grows counts d in
    let rest = all-grow (counted counts d) by in
    omega (arith, one, rest)

lane-grows : (frame : List ℕ) (old new : LinkReceiverState) (pdus : List (List ℕ)) → GivesPdus frame old new pdus → count_of old.drops 11 ≤ count_of new.drops 11
lane-grows frame old new pdus g = elim g.takes [
  | inl t ↦ (
      let is = ap (λ l. count_of l 11) t.drops in
      let one = all-grow old.drops (frame_read old frame).told in
      let two = all-grow (all_counted old.drops (frame_read old frame).told) (drops_of old.link (frame_read old frame).packets) in
      omega (arith, is, one, two))
  | inr t ↦ (
      let is = ap (λ l. count_of l 11) t.1.drops in
      let one = counted-grows old.drops link_drops.NoMemory in
      let two = all-grow (counted old.drops link_drops.NoMemory) (drops_of old.link (take t.1.count (frame_read old frame).packets)) in
      omega (arith, is, one, two))
]

both-lanes : (old new : UpState) → ((l : Lane) → count_of (lane_up l old).drops 11 ≤ count_of (lane_up l new).drops 11) → drop_count old 11 ≤ drop_count new 11
both-lanes old new h = (
    let a : count_of old.directives.drops 11 ≤ count_of new.directives.drops 11 = h Directives in
    let b : count_of old.file_data.drops 11 ≤ count_of new.file_data.drops 11 = h Data in
    omega (arith, a, b))

-- ---- a station
-- its counts that show a shortage
pub record Rise (old new : StationState) : Type 0 where
  link_memory : drop_count old.up 11 ≤ drop_count new.up 11
  memory : get_or old.entity.state.drops 16 0 ≤ get_or new.entity.state.drops 16 0
  outbox : old.entity.outbox_failures ≤ new.entity.outbox_failures
  inbox : old.entity.inbox_failures ≤ new.entity.inbox_failures
  table : get_or old.entity.state.drops 15 0 ≤ get_or new.entity.state.drops 15 0

abbrev pub RiseAt : Side → (old new : WorldState) → Type 0
RiseAt s old new = Rise (station_at s old) (station_at s new)

abbrev pub RiseAll : (old new : WorldState) → Type 0
RiseAll old new = (s : Side) → RiseAt s old new

rise-none : (a : StationState) → Rise a a
rise-none a = record { link_memory = omega arith; memory = omega arith; outbox = omega arith; inbox = omega arith; table = omega arith }

station-rises : (old new : StationState) → Grows old.entity new.entity → drop_count old.up 11 ≤ drop_count new.up 11 → Rise old new
station-rises old new g link = record { link_memory = link; memory = g.memory; outbox = g.outbox; inbox = g.inbox; table = g.table }

-- if its link is the same
entity-rises : (old new : StationState) → Grows old.entity new.entity → new.up ≡ old.up → Rise old new
entity-rises old new g up = station-rises old new g (let same : drop_count new.up 11 ≡ drop_count old.up 11 = ap (λ (u : UpState). drop_count u 11) up in omega (arith, same))

station-same : (old new : StationState) → new ≡ old → Rise old new
station-same old new is = subst (λ (x : StationState). Rise old x) (sym is) (rise-none old)

world-same : (old new : WorldState) → new ≡ old → RiseAll old new
world-same old new is = subst (λ (w : WorldState). RiseAll old w) (sym is) (λ s. rise-none (station_at s old))

one-rises : (s : Side) (old new : WorldState) → RiseAt s old new → station_at (other s) new ≡ station_at (other s) old → RiseAll old new
one-rises s old new here there = both (λ t. RiseAt t old new) s here (station-same (station_at (other s) old) (station_at (other s) new) there)

-- ---- an event
refused-drops : (t : Turn) (e : EntityState) → (served storeds.Refused t e).drops ≡ e.drops
refused-drops (Stray s strays) e = refl
refused-drops (Place place) e = refl
refused-drops Rests e = refl

module _ (s : Side) (old new : WorldState) where
  abbrev was : StationState
  was = station_at s old

  abbrev is : StationState
  is = station_at s new

  sends-rises : SendsOne s old new → RiseAll old new
  sends-rises h = one-rises s old new
      (entity-rises was is (same-grows was.entity is.entity (ap (λ (e : EntityState). e.drops) h.served ∙ served-drops (turn was.entity.state) was.entity.state)
      (let same = h.failures.0 in omega (arith, same)) (let same = h.failures.1 in omega (arith, same))) h.marks.up)
      h.marks.spares.station

  fails-rises : FailsSource s old new → RiseAll old new
  fails-rises h = one-rises s old new
      (entity-rises was is (same-grows was.entity is.entity (ap (λ (e : EntityState). e.drops) h.served ∙ refused-drops (turn was.entity.state) was.entity.state)
      h.failed.0 (let same = h.inbox in omega (arith, same))) h.links.ends.1)
      h.links.spares.station

  poll-rises : (d : Applied) → Polls d s old new → RiseAll old new
  poll-rises did.Applied (inl h) = sends-rises h
  poll-rises did.Applied (inr h) = fails-rises h
  poll-rises did.Nothing h = world-same old new h.1
  poll-rises (did.Refused by) h = absurd h

  flush-rises : (d : Applied) → Flushes d s old new → RiseAll old new
  flush-rises did.Applied h = one-rises s old new (entity-rises was is (equal-grows was.entity is.entity h.0.entity) h.0.marks.up) h.0.marks.spares.station
  flush-rises did.Nothing h = world-same old new h.1
  flush-rises (did.Refused by) h = absurd h

  pub tick-rises : (now : ℕ) → TellsTime s now old new → RiseAll old new
  tick-rises now h = one-rises s old new
      (entity-rises was is (same-grows was.entity is.entity (ap (λ (e : EntityState). e.drops) h.table) (let same = h.failures.0 in omega (arith, same)) h.failures.1) h.links.ends.1)
      h.links.spares.station

  strike-rises : (d : Applied) (l : Lane) → Strikes d s l old new → RiseAll old new
  strike-rises did.Applied l h = one-rises s old new (station-same was is h.station) h.spares.station
  strike-rises did.Nothing l h = world-same old new h.1
  strike-rises (did.Refused (refusal.Put by)) l h = absurd h
  strike-rises (did.Refused (refusal.Call by)) l h = absurd h
  strike-rises (did.Refused refusal.LossRunTooLong) l h = world-same old new h.same
  strike-rises (did.Refused refusal.NotDamaged) l h = absurd h

  abbrev heard : StationState
  heard = station_at (other s) old

  abbrev hears : StationState
  hears = station_at (other s) new

  delivered-link : (l : Lane) → DeliversFrame s l old new → drop_count heard.up 11 ≤ drop_count hears.up 11
  delivered-link l h = both-lanes heard.up hears.up (either-lane (λ (m : Lane). count_of (lane_up m heard.up).drops 11 ≤ count_of (lane_up m hears.up).drops 11) l
      (lane-grows (oldest_of (lane_from s l old)) (lane_up l heard.up) (lane_up l hears.up) h.given h.gives)
      (let same = ap (λ (u : LinkReceiverState). count_of u.drops 11) h.other_up in omega (arith, same)))

  deliver-rises : (d : Applied) (l : Lane) → Delivers d s l old new → RiseAll old new
  deliver-rises did.Applied l h = both (λ t. RiseAt t old new) s (station-same was is h.station)
      (station-rises heard hears (hears-grows h.given heard.entity hears.entity h.heard) (delivered-link l h))
  deliver-rises did.Nothing l h = world-same old new h.1
  deliver-rises (did.Refused by) l h = absurd h

pub step-rises : (e : Event) (d : Applied) (old new : WorldState) → IsOfTurn e → Steps e d old new → RiseAll old new
step-rises (event.Poll s) d old new of h = poll-rises s old new d h
step-rises (event.Flush s) d old new of h = flush-rises s old new d h
step-rises (event.Deliver s l) d old new of h = deliver-rises s old new d l h
step-rises (event.Strike s l) d old new of h = strike-rises s old new d l h
step-rises (event.Tick s now) d old new of h = absurd of
step-rises (event.Damage s l octets) d old new of h = absurd of
step-rises (event.Put s source destination) d old new of h = absurd of
step-rises (event.Cancel s id) d old new of h = absurd of
step-rises (event.Suspend s id) d old new of h = absurd of
step-rises (event.Resume s id) d old new of h = absurd of
step-rises (event.Prompt s id keep_alive) d old new of h = absurd of

-- ---- several events
station-both : (a b c : StationState) → Rise a b → Rise b c → Rise a c
station-both a b c one two = record {
  link_memory = (let p : drop_count a.up 11 ≤ drop_count b.up 11 = one.link_memory in let q : drop_count b.up 11 ≤ drop_count c.up 11 = two.link_memory in omega (arith, p, q));
  memory = (let p : get_or a.entity.state.drops 16 0 ≤ get_or b.entity.state.drops 16 0 = one.memory in let q : get_or b.entity.state.drops 16 0 ≤ get_or c.entity.state.drops 16 0 = two.memory in omega (arith, p, q));
  outbox = (let p : a.entity.outbox_failures ≤ b.entity.outbox_failures = one.outbox in let q : b.entity.outbox_failures ≤ c.entity.outbox_failures = two.outbox in omega (arith, p, q));
  inbox = (let p : a.entity.inbox_failures ≤ b.entity.inbox_failures = one.inbox in let q : b.entity.inbox_failures ≤ c.entity.inbox_failures = two.inbox in omega (arith, p, q));
  table = (let p : get_or a.entity.state.drops 15 0 ≤ get_or b.entity.state.drops 15 0 = one.table in let q : get_or b.entity.state.drops 15 0 ≤ get_or c.entity.state.drops 15 0 = two.table in omega (arith, p, q));
}

pub rise-both : (a b c : WorldState) → RiseAll a b → RiseAll b c → RiseAll a c
rise-both a b c one two s = station-both (station_at s a) (station_at s b) (station_at s c) (one s) (two s)

pub rise-same : (w : WorldState) → RiseAll w w
rise-same w s = rise-none (station_at s w)

-- of one count
first-spared : (a b c : ℕ) → a ≤ b → b ≤ c → IsSpared a c → IsSpared a b
first-spared a b c one two h = (let same : c ≡ a = h.0 in let low : c < 2 ^ 64 - 1 = h.1 in (omega (arith, one, two, same), omega (arith, two, low)))

then-spared : (a b c : ℕ) → a ≤ b → b ≤ c → IsSpared a c → IsSpared b c
then-spared a b c one two h = (let same : c ≡ a = h.0 in (omega (arith, one, two, same), h.1))

module _ (a b c : StationState) (one : Rise a b) (two : Rise b c) where
  first-stay : (e : SettleError) → CountsStayAt e (shortages a) (shortages c) → CountsStayAt e (shortages a) (shortages b)
  first-stay NoMemory h = (
    first-spared (drop_count a.up 11) (drop_count b.up 11) (drop_count c.up 11) one.link_memory two.link_memory h.0,
    first-spared (get_or a.entity.state.drops 16 0) (get_or b.entity.state.drops 16 0) (get_or c.entity.state.drops 16 0) one.memory two.memory h.1,
  )
  first-stay StoreFailed h = (
    first-spared a.entity.outbox_failures b.entity.outbox_failures c.entity.outbox_failures one.outbox two.outbox h.0,
    first-spared a.entity.inbox_failures b.entity.inbox_failures c.entity.inbox_failures one.inbox two.inbox h.1,
  )
  first-stay TableFull h = first-spared (get_or a.entity.state.drops 15 0) (get_or b.entity.state.drops 15 0) (get_or c.entity.state.drops 15 0) one.table two.table h

  then-stay : (e : SettleError) → CountsStayAt e (shortages a) (shortages c) → CountsStayAt e (shortages b) (shortages c)
  then-stay NoMemory h = (
    then-spared (drop_count a.up 11) (drop_count b.up 11) (drop_count c.up 11) one.link_memory two.link_memory h.0,
    then-spared (get_or a.entity.state.drops 16 0) (get_or b.entity.state.drops 16 0) (get_or c.entity.state.drops 16 0) one.memory two.memory h.1,
  )
  then-stay StoreFailed h = (
    then-spared a.entity.outbox_failures b.entity.outbox_failures c.entity.outbox_failures one.outbox two.outbox h.0,
    then-spared a.entity.inbox_failures b.entity.inbox_failures c.entity.inbox_failures one.inbox two.inbox h.1,
  )
  then-stay TableFull h = then-spared (get_or a.entity.state.drops 15 0) (get_or b.entity.state.drops 15 0) (get_or c.entity.state.drops 15 0) one.table two.table h

module _ (a b c : WorldState) (one : RiseAll a b) (two : RiseAll b c) (keeps : KeepsAll (all_shortages a) (all_shortages c)) where
  first-both : (e : SettleError) → CountsStay e (all_shortages a) (all_shortages c) → CountsStay e (all_shortages a) (all_shortages b)
  first-both e h = (first-stay a.one b.one c.one (one One) (two One) e h.0, first-stay a.two b.two c.two (one Two) (two Two) e h.1)

  then-both : (e : SettleError) → CountsStay e (all_shortages a) (all_shortages c) → CountsStay e (all_shortages b) (all_shortages c)
  then-both e h = (then-stay a.one b.one c.one (one One) (two One) e h.0, then-stay a.two b.two c.two (one Two) (two Two) e h.1)

  -- so nothing was short in either part
  pub first-keeps : KeepsAll (all_shortages a) (all_shortages b)
  first-keeps = record { memory = first-both NoMemory keeps.memory; stores = first-both StoreFailed keeps.stores; tables = first-both TableFull keeps.tables }

  pub then-keeps : KeepsAll (all_shortages b) (all_shortages c)
  then-keeps = record { memory = then-both NoMemory keeps.memory; stores = then-both StoreFailed keeps.stores; tables = then-both TableFull keeps.tables }
