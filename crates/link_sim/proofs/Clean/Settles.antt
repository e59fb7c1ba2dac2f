-- An event of a settling that goes well keeps a clean world clean.
use Rattle.std.proofs.Common.{◌≡◌, ◌≢◌, ℕ, ◌-◌, ◌^◌, ◌<◌, ◌==◌, not, true, false, List, [], ◌∷◌, ◌++◌, get_or, slice_get, Some, inl, inr, refl, sym, ap, subst, ◌∙◌, arith}
use Rattle.std.specs.Prelude.{Contains}
use Rattle.std.specs.List.{list_any}
use Rattle.std.proofs.lemmas.Bool.{cases_Bool, eqb-true, eqb-false}
use Rattle.cfdp_directives.specs.User.Put.{SaysTruth}
use Rattle.aos_frame.specs.Frame.{other_lane}
use Rattle.aos_frame.specs.declared.config.Lane.{Lane}
use Rattle.cfdp_entity.specs.Entity.{EntityState, Counted}
use Rattle.cfdp_entity.specs.History.{Leads, KeepsRecords}
use Rattle.cfdp_entity.specs.Polling.{turn}
use Rattle.cfdp_entity.specs.Sound.{IsSound as IsSoundEntity, ComesTrue}
use Rattle.cfdp_entity.specs.Table.{TableState}
use Rattle.cfdp_station.specs.Station.{StationState}
use Rattle.link_stack.specs.Drops.{count_of}
use Rattle.link_stack.specs.Upward.{LinkReceiverState, UpState, drop_count, lane_up}
use Rattle.link_sim.specs.declared.event.Event.{Event}
use Rattle.link_sim.specs.declared.event.Event.TheVariants as event
use Rattle.link_sim.specs.declared.event.Applied.TheVariants as did
use Rattle.station_pair.specs.declared.side.Side.{Side}
use Rattle.station_pair.specs.declared.side.Side.TheVariants.{One, Two}
use Rattle.link_sim.specs.Between.{Pdu}
use Rattle.link_sim.specs.Clean.{IsClean, IsCleanAt, IsCleanEntity}
use Rattle.link_sim.specs.EveryPut.{KeepCourse}
use Rattle.link_sim.specs.Exchange.{AllTrue}
use Rattle.link_sim.specs.Known.{AreKnown}
use Rattle.link_sim.specs.Observed.{seen}
use Rattle.link_sim.specs.Runs.{IsSwapped}
use Rattle.station_pair.specs.Stations.{other}
use Rattle.link_sim.specs.Sound.{IsSound}
use Rattle.link_sim.specs.Theorem.{put_of}
use Rattle.link_sim.specs.Work.{AreWithin, most_offset}
use Rattle.link_sim.specs.Settling.{IsOfSettling, KeepsAll, all_shortages}
use Rattle.link_sim.specs.World.State.{LanesState, LinkState, WorldState, delivered_from, entity_at, lane_from, link_from, on_lane, on_way_from, sent_from, station_at}
use Rattle.link_sim.specs.World.Steps.{SendsOne, FailsSource, Fills, DeliversFrame, Steps}
use Rattle.link_sim.proofs.Clean.Hears.{IsCleanTable, HearingLaws, IsFine, HearsClean, any-append}
use Rattle.link_sim.proofs.Clean.Given.{served-clean, served-drops, all-clean}
use Rattle.link_sim.proofs.Clean.Puts.{IsCourseFrom, course-from, IsText, text-at, in-front, all-at, all-from, fine-at}
use Rattle.link_sim.proofs.Events.Keeping.{Grounds, both, other-other}
use Rattle.link_sim.proofs.EveryPut.Pdus.{InTwo, spelled-split}
use Rattle.link_sim.proofs.Events.Moving.{EntityLaws}
use Rattle.link_sim.proofs.Lanes.Counts.{same-sum, sum-none}
use Rattle.link_sim.proofs.Lanes.Heard.{given-heard, given-sent}
use Rattle.link_sim.proofs.Lanes.Each.{either-lane}
use Rattle.link_sim.proofs.Lanes.Joined.{swapped-none}
use Rattle.link_sim.proofs.Lanes.Swapping.{SwapsPdus, swapped-all, swapped-known, swapped-spelled}
use Rattle.link_sim.proofs.OnWay.World.{HearsOnWay, delivers-on-way}
use Rattle.link_sim.proofs.Found.Puts.{puts-by-id}

-- Nothing was short at this station: the counts that show it are as they were, and those of the
-- stores would show it.
pub record IsSparedAt (s : Side) (old new : WorldState) : Type 0 where
  pub link_memory : drop_count (station_at s new).up 11 ≡ drop_count (station_at s old).up 11
  pub memory : get_or (entity_at s new).drops 16 0 ≡ get_or (entity_at s old).drops 16 0
  pub table : get_or (entity_at s new).drops 15 0 ≡ get_or (entity_at s old).drops 15 0
  pub outbox : (station_at s new).entity.outbox_failures ≡ (station_at s old).entity.outbox_failures
  pub outbox_low : (station_at s new).entity.outbox_failures < 2 ^ 64 - 1
  pub inbox : (station_at s new).entity.inbox_failures ≡ (station_at s old).entity.inbox_failures
  pub inbox_low : (station_at s new).entity.inbox_failures < 2 ^ 64 - 1

-- so it is if no count of either station says so
pub spared-at : (old new : WorldState) → KeepsAll (all_shortages old) (all_shortages new) → (s : Side) → IsSparedAt s old new
spared-at old new k One = record {
  link_memory = k.memory.0.0.0;
  memory = k.memory.0.1.0;
  table = k.tables.0.0;
  outbox = k.stores.0.0.0;
  outbox_low = k.stores.0.0.1;
  inbox = k.stores.0.1.0;
  inbox_low = k.stores.0.1.1;
}
spared-at old new k Two = record {
  link_memory = k.memory.1.0.0;
  memory = k.memory.1.1.0;
  table = k.tables.1.0;
  outbox = k.stores.1.0.0;
  outbox_low = k.stores.1.0.1;
  inbox = k.stores.1.1.0;
  inbox_low = k.stores.1.1.1;
}

-- The laws that are used.
pub record CleanLaws : Type 0 where
  pub entity : EntityLaws
  pub grounds : Grounds
  pub hearing : HearingLaws
  pub stays : (old new : TableState) → Leads old new → KeepsRecords old.records new.records

-- ---- an entity
table-of : (e : EntityState) → IsCleanEntity e → IsCleanTable e.table
table-of e c = record { told = c.told; kept = c.uncancelled }

-- drops stay none, if none for lack of room is counted
none-more : (old new : EntityState) → IsCleanEntity old → HearsClean old new → get_or new.drops 16 0 ≡ get_or old.drops 16 0 → get_or new.drops 15 0 ≡ get_or old.drops 15 0 → IsCleanEntity new
none-more old new c h memory full = record { told = h.table.told; uncancelled = h.table.kept; heard = each }
  where
    each : (n : ℕ) → n ≢ 14 → get_or new.drops n 0 ≡ 0
    each n ne = elim (cases_Bool (n == 15)) [
      | inl is ↦ (let e : n ≡ 15 = eqb-true n 15 is in ap (λ k. get_or new.drops k 0) e ∙ full ∙ c.heard 15 (λ z. omega (arith, z)))
      | inr not_ ↦ elim (cases_Bool (n == 16)) [
        | inl is ↦ (let e : n ≡ 16 = eqb-true n 16 is in ap (λ k. get_or new.drops k 0) e ∙ memory ∙ c.heard 16 (λ z. omega (arith, z)))
        | inr nor ↦ h.drops n ne (eqb-false n 15 not_) (eqb-false n 16 nor) ∙ c.heard n ne
      ]
    ]

-- a side at which nothing changed
pub clean-same : (t : Side) (old new : WorldState) → station_at t new ≡ station_at t old → link_from t new ≡ link_from t old → IsCleanAt t old → IsCleanAt t new
clean-same t old new station link c = record {
  entity = subst (λ (x : StationState). IsCleanEntity x.entity.state) (sym station) c.entity;
  none_lost = λ l. ap (λ (k : LanesState). list_any not (on_lane l k).marks) link ∙ c.none_lost l;
  read = λ n. ap (λ (x : StationState). drop_count x.up n) station ∙ c.read n;
}

-- ---- a poll, and a flush
pub polled-clean : (s : Side) (old new : WorldState) → IsClean old → SendsOne s old new → IsClean new
polled-clean s old new clean h =
    let c : IsCleanAt s old = clean s in
    let e : EntityState = entity_at s old in
    let table : IsCleanTable (entity_at s new).table = subst (λ (x : EntityState). IsCleanTable x.table) (sym h.served) (served-clean (turn e) e (table-of e c.entity)) in
    let drops : (entity_at s new).drops ≡ e.drops = ap (λ (x : EntityState). x.drops) h.served ∙ served-drops (turn e) e in
    let this : IsCleanAt s new = record {
      entity = record { told = table.told; uncancelled = table.kept; heard = λ n ne. ap (λ l. get_or l n 0) drops ∙ c.entity.heard n ne };
      none_lost = λ l. ap (list_any not) (h.marks.marks l) ∙ c.none_lost l;
      read = λ n. ap (λ (u : UpState). drop_count u n) h.marks.up ∙ c.read n;
    } in
    both (λ t. IsCleanAt t new) s this (clean-same (other s) old new h.marks.spares.station h.marks.spares.link (clean (other s)))

-- the outbox didn't fail
none-failed : (s : Side) (old new : WorldState) → IsSparedAt s old new → FailsSource s old new → ⊥
none-failed s old new spared h =
    let same : (station_at s new).entity.outbox_failures ≡ (station_at s old).entity.outbox_failures = spared.outbox in
    let low : (station_at s old).entity.outbox_failures < 2 ^ 64 - 1 = subst (λ n. n < 2 ^ 64 - 1) same spared.outbox_low in
    let more : (station_at s old).entity.outbox_failures < (station_at s new).entity.outbox_failures = h.failed.1 low in
    omega (arith, more, same)

pub filled-clean : (s : Side) (old new : WorldState) → IsClean old → Fills s old new → IsClean new
filled-clean s old new clean h =
    let c : IsCleanAt s old = clean s in
    let this : IsCleanAt s new = record {
      entity = subst (λ (x : Counted). IsCleanEntity x.state) (sym h.entity) c.entity;
      none_lost = λ l. ap (list_any not) (h.marks.marks l) ∙ c.none_lost l;
      read = λ n. ap (λ (u : UpState). drop_count u n) h.marks.up ∙ c.read n;
    } in
    both (λ t. IsCleanAt t new) s this (clean-same (other s) old new h.marks.spares.station h.marks.spares.link (clean (other s)))

-- ---- a delivery
module _ (laws : CleanLaws) (s : Side) (l : Lane) (old new : WorldState) (sound : IsSound old) (course : KeepCourse old) (clean : IsClean old)
    (sizes : (t : Side) → AreWithin most_offset (entity_at t old).table.records) (h : DeliversFrame s l old new)
    (spared : IsSparedAt (other s) old new) where
  abbrev there : EntityState
  there = entity_at (other s) old

  c : IsCourseFrom s old
  c = course-from s old course

  abbrev heard : List (List ℕ)
  heard = delivered_from s old ++ h.hears.more

  peer-is : there.config.peer ≡ (entity_at s old).config.entity
  peer-is = (sound (other s)).peer ∙ ap (λ t. (entity_at t old).config.entity) (other-other s)

  comes : (x : List ℕ) → Contains h.given x → ComesTrue there.config.peer (put_of (seen old)) heard x
  comes x among =
      let sent : Contains (sent_from s old) x = given-sent laws.entity.in_whole s l old new h x among in
      record {
        among = given-heard laws.entity.in_whole s l old new h x among;
        says = λ k v spells. subst (λ (n : ℕ). SaysTruth n (put_of (seen old)) k.id v) (sym peer-is) ((sound s).sent x sent k v spells).0;
      }

  none_read : drop_count (station_at (other s) new).up 11 ≡ 0
  none_read = spared.link_memory ∙ (clean (other s)).read 11

  marks-now : (m : Lane) → list_any not (lane_from s m new).marks ≡ false
  marks-now = either-lane (λ (m : Lane). list_any not (lane_from s m new).marks ≡ false) l
      (ap (λ (k : LinkState). list_any not k.marks) h.link ∙ any-append not (lane_from s l old).marks (true ∷ []) ((clean s).none_lost l) refl)
      (ap (λ (k : LinkState). list_any not k.marks) h.other_link ∙ (clean s).none_lost (other_lane l))

  on : HearsOnWay s h.given old new
  on = delivers-on-way s l old new (sound s).ways h

  given-is : h.given ≡ on.gone
  given-is = on.all marks-now none_read

  -- those of the lane whose frame came stand first
  swaps : SwapsPdus (h.given ++ on_way_from s new) c.forth
  swaps = swapped-spelled (on_way_from s old) (h.given ++ on_way_from s new) c.forth
      (subst (λ (ps : List (List ℕ)). IsSwapped (on_way_from s old) (ps ++ on_way_from s new)) (sym given-is) on.takes.forth) c.spelled

  two : InTwo h.given (on_way_from s new) swaps.swapped
  two = spelled-split h.given (on_way_from s new) swaps.swapped swaps.spelled

  -- each is one of those that were on their way
  places : AllTrue (λ (p : Pdu). (m : ℕ) × (slice_get c.forth m ≡ Some p)) swaps.swapped
  places = swapped-all (λ (p : Pdu). (m : ℕ) × (slice_get c.forth m ≡ Some p)) c.forth swaps.swapped swaps.are
      (all-from (λ (p : Pdu). (m : ℕ) × (slice_get c.forth m ≡ Some p)) c.forth (λ n p at. (n, at)))

  fine : AllTrue (IsFine (put_of (seen old)) heard) two.first
  fine = all-from (IsFine (put_of (seen old)) heard) two.first (λ n p at. (
      let t : IsText h.given p = text-at h.given two.first n p two.spelled at in
      let there_at = subst (λ (ps : List Pdu). slice_get ps n ≡ Some p) (sym two.joined) (in-front two.first two.rest n p at) in
      let place : (m : ℕ) × (slice_get c.forth m ≡ Some p) = all-at (λ (q : Pdu). (m : ℕ) × (slice_get c.forth m ≡ Some q)) swaps.swapped n p places there_at in
      fine-at s old sound clean sizes c heard place.0 p place.1 t.text t.spells (comes t.text t.among)))

  sound-then : IsSoundEntity (put_of (seen old)) heard (sound (other s)).first there
  sound-then =
      let now : IsSoundEntity (put_of (seen old)) (delivered_from s old) (sound (other s)).first there =
      subst (λ (t : Side). IsSoundEntity (put_of (seen old)) (delivered_from t old) (sound (other s)).first there) (other-other s) (sound (other s)).entity in
      laws.grounds.more (put_of (seen old)) (put_of (seen old)) (delivered_from s old) h.hears.more (sound (other s)).first there (λ id put is. is) now

  known : AreKnown (put_of (seen old)) there (entity_at s old) c.back (two.first ++ two.rest)
  known = subst (λ (ps : List Pdu). AreKnown (put_of (seen old)) there (entity_at s old) c.back ps) two.joined
      (swapped-known c.back c.back c.forth swaps.swapped (swapped-none c.back) swaps.are (put_of (seen old)) there (entity_at s old) (c.known.1, c.known.0))

  hears : HearsClean there (entity_at (other s) new)
  hears =
      let low : (station_at (other s) old).entity.inbox_failures < 2 ^ 64 - 1 = subst (λ n. n < 2 ^ 64 - 1) spared.inbox spared.inbox_low in
      all-clean laws.entity laws.hearing laws.stays (put_of (seen old)) (puts-by-id (seen old)) heard (sound (other s)).first (entity_at s old) c.back h.given two.first two.rest
      (station_at (other s) old).entity (station_at (other s) new).entity
      two.spelled h.heard known fine comes sound-then spared.inbox low (table-of there (clean (other s)).entity)

  pub delivered-clean : IsClean new
  delivered-clean =
      let same : (lane_up l (station_at (other s) new).up).drops ≡ (lane_up l (station_at (other s) old).up).drops = h.hears.clear ((clean s).none_lost l)
      (sum-none (station_at (other s) new).up 11 none_read l) in
      let this : IsCleanAt s new = record {
        entity = subst (λ (x : StationState). IsCleanEntity x.entity.state) (sym h.station) (clean s).entity;
        none_lost = marks-now;
        read = λ n. ap (λ (x : StationState). drop_count x.up n) h.station ∙ (clean s).read n;
      } in
      let that : IsCleanAt (other s) new = record {
        entity = none-more there (entity_at (other s) new) (clean (other s)).entity hears spared.memory spared.table;
        none_lost = λ m. ap (λ (k : LanesState). list_any not (on_lane m k).marks) h.back ∙ (clean (other s)).none_lost m;
        read = λ n. same-sum (station_at (other s) old).up (station_at (other s) new).up n
            (either-lane (λ (m : Lane). count_of (lane_up m (station_at (other s) new).up).drops n ≡ count_of (lane_up m (station_at (other s) old).up).drops n) l (ap (λ ds. count_of ds n) same)
            (ap (λ (u : LinkReceiverState). count_of u.drops n) h.other_up)) ∙ (clean (other s)).read n;
      } in
      both (λ t. IsCleanAt t new) s this that

-- ---- an event
pub settles-clean : CleanLaws → (e : Event) (old new : WorldState) → IsOfSettling e → Steps e did.Applied old new → IsSound old → KeepCourse old →
    ((t : Side) → AreWithin most_offset (entity_at t old).table.records) →
    ((t : Side) → IsSparedAt t old new) → IsClean old → IsClean new
settles-clean laws (event.Poll s) old new is (inl h) sound course sizes spared clean = polled-clean s old new clean h
settles-clean laws (event.Poll s) old new is (inr h) sound course sizes spared clean = absurd (none-failed s old new (spared s) h)
settles-clean laws (event.Flush s) old new is h sound course sizes spared clean = filled-clean s old new clean h.0
settles-clean laws (event.Deliver s l) old new is h sound course sizes spared clean = delivered-clean laws s l old new sound course clean sizes h (spared (other s))
settles-clean laws (event.Put s source destination) old new is h sound course sizes spared clean = absurd is
settles-clean laws (event.Cancel s id) old new is h sound course sizes spared clean = absurd is
settles-clean laws (event.Suspend s id) old new is h sound course sizes spared clean = absurd is
settles-clean laws (event.Resume s id) old new is h sound course sizes spared clean = absurd is
settles-clean laws (event.Prompt s id keep_alive) old new is h sound course sizes spared clean = absurd is
settles-clean laws (event.Tick s now) old new is h sound course sizes spared clean = absurd is
settles-clean laws (event.Strike s l) old new is h sound course sizes spared clean = absurd is
settles-clean laws (event.Damage s l octets) old new is h sound course sizes spared clean = absurd is
