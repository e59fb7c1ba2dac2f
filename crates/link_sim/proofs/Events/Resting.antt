-- What every event keeps beside the promises: between events no whole zone waits, and no two puts
-- have the same id.
use Rattle.std.proofs.Common.{◌≡◌, ◌≢◌, ◌<◌, length, List, [], ◌∷◌, ◌++◌, ◌⊎◌, Contains, ℕ, zero, suc, refl, sym, ap, subst, ◌∙◌, inl, inr, arith}
use Rattle.std.proofs.lemmas.List.Elements.{Contains-append_cases}
use Rattle.cfdp_header.specs.declared.value.TransactionId.{TransactionId}
use Rattle.aos_frame.specs.Frame.{other_lane}
use Rattle.aos_frame.specs.declared.config.Lane.{Lane}
use Rattle.mpdu.specs.Packing.{flush_of}
use Rattle.link_stack.specs.Downward.{LinkSenderState, lane_down, packing}
use Rattle.link_stack.specs.Upward.{LinkReceiverState, lane_up}
use Rattle.cfdp_station.specs.Link.{next_lane}
use Rattle.link_sim.specs.declared.event.AcceptedPut.{AcceptedPut}
use Rattle.link_sim.specs.declared.event.Applied.{Applied}
use Rattle.link_sim.specs.declared.event.Applied.TheVariants as did
use Rattle.link_sim.specs.declared.event.Event.{Event}
use Rattle.link_sim.specs.declared.event.Event.TheVariants as event
use Rattle.station_pair.specs.declared.refusal.Refusal.TheVariants as refusal
use Rattle.station_pair.specs.declared.side.Side.{Side}
use Rattle.link_sim.specs.OneWay.{OneWayState, IsOneWay, IsRested, SendsMore}
use Rattle.link_sim.specs.Running.{AreApart}
use Rattle.station_pair.specs.Stations.{other}
use Rattle.link_sim.specs.Sound.{IsSound}
use Rattle.link_sim.specs.World.State.{WorldState, AreRested, LanesState, LinkState, entity_at, lane_from, link_from, on_lane, station_at, way, way_from}
use Rattle.link_sim.specs.World.Steps.{DeliversFrame, Fills, KeepsLinks, KeepsMarks, LosesFrame, SendsOne, Spares, Steps, TakesPut}
use Rattle.link_sim.proofs.Events.Keeping.{both}
use Rattle.link_sim.proofs.Lanes.Each.{either-lane}
use Rattle.link_sim.proofs.Lanes.Ways.{strikes-loses}
use Rattle.link_sim.proofs.OnWay.Rests.{rests-flushed, rests-unflushed, same-link}

-- ---- ends that rest
abbrev AllRest : WorldState → Type 0
AllRest w = (t : Side) → AreRested t w

-- it is a matter of the end that sends and of the frames
rested-way : (d e : LinkSenderState) (k m : LinkState) (u v : LinkReceiverState) → e ≡ d → m.frames ≡ k.frames → IsRested (way d k u) → IsRested (way e m v)
rested-way d e k m u v de fk is =
    subst (λ (x : LinkSenderState). IsRested (way x m v)) (sym de)
    (subst (λ fs. IsRested (way d (record { frames = fs; marks = m.marks; run = m.run }) v)) (sym fk) (record { none_waits = is.none_waits; filled = is.filled }))

-- what a station sent is as it was
abbrev IsSameWay : Side → (old new : WorldState) → Type 0
IsSameWay t old new = ((station_at t new).down ≡ (station_at t old).down) × ((l : Lane) → (lane_from t l new).frames ≡ (lane_from t l old).frames)

rested-same : (t : Side) (old new : WorldState) → IsSameWay t old new → AreRested t old → AreRested t new
rested-same t old new k is l =
    rested-way (lane_down l (station_at t old).down) (lane_down l (station_at t new).down) (lane_from t l old) (lane_from t l new)
    (lane_up l (station_at (other t) old).up) (lane_up l (station_at (other t) new).up) (ap (lane_down l) k.0) (k.1 l) (is l)

-- each lane has the same frames
same-frames : (k m : LanesState) → m ≡ k → (l : Lane) → (on_lane l m).frames ≡ (on_lane l k).frames
same-frames k m same l = ap (λ (x : LanesState). (on_lane l x).frames) same

module _ (old new : WorldState) (sound : IsSound old) (rest : AllRest old) where
  all-same : ((t : Side) → IsSameWay t old new) → AllRest new
  all-same k t = rested-same t old new (k t) (rest t)

  world-same : new ≡ old → AllRest new
  world-same e = subst AllRest (sym e) rest

  -- what the other station sent
  spared-way : (s : Side) → Spares s old new → IsSameWay (other s) old new
  spared-way s k = (ap (λ x. x.down) k.station, same-frames (link_from (other s) old) (link_from (other s) new) k.link)

  links-same : (s : Side) → KeepsLinks s old new → AllRest new
  links-same s k = all-same (both (λ t. IsSameWay t old new) s (k.ends.0, same-frames (link_from s old) (link_from s new) k.link) (spared-way s k.spares))

  marks-same : (s : Side) → KeepsMarks s old new → AreRested s new → AllRest new
  marks-same s k rested = both (λ t. AreRested t new) s rested (rested-same (other s) old new (spared-way s k.spares) (rest (other s)))

  sent-rests : (s : Side) → SendsOne s old new → AreRested s new
  sent-rests s h =
      let l : Lane = next_lane (entity_at s old) in
      either-lane (λ m. IsRested (way_from s m new)) l (rests-unflushed (way_from s l new) (h.none_whole l) h.unflushed) (subst IsRested (sym h.other) (rest s (other_lane l)))

  filled-way : (o n : OneWayState) → IsOneWay o → IsRested o → SendsMore o n (flush_of (packing o.down)) [] → n.up ≡ o.up → length n.down.waiting < n.down.link.zone →
      (flush_of (packing o.down) ≡ [] → n.down.flushed ≡ o.down.flushed) → IsRested n
  filled-way o n is rested more up waits same =
      let zone : n.down.link.zone ≡ o.down.link.zone = ap (λ k. k.zone) (same-link o n is more.way up) in
      rests-flushed o n is rested more up (omega (arith, waits, zone)) same

  filled-rests : (s : Side) → Fills s old new → AreRested s new
  filled-rests s h l =
      filled-way (way_from s l old) (way_from s l new) ((sound s).ways l) (rest s l) (h.sends l) (ap (λ x. lane_up l x.up) h.marks.spares.station) (h.none_whole l)
      (λ none. ap (λ (w : OneWayState). w.down.flushed) (h.same l none))

  -- a frame of a lane was taken
  delivered-rests : (s : Side) (l : Lane) → DeliversFrame s l old new → AllRest new
  delivered-rests s l h = all-same (both (λ t. IsSameWay t old new) s (
    ap (λ x. x.down) h.station,
    either-lane (λ m. (lane_from s m new).frames ≡ (lane_from s m old).frames) l (ap (λ (k : LinkState). k.frames) h.link) (ap (λ (k : LinkState). k.frames) h.other_link),
  )
      (h.down, same-frames (link_from (other s) old) (link_from (other s) new) h.back))

  lost-rests : (s : Side) (l : Lane) → LosesFrame s l old new → AllRest new
  lost-rests s l h = all-same (both (λ t. IsSameWay t old new) s (
    ap (λ x. x.down) h.station,
    either-lane (λ m. (lane_from s m new).frames ≡ (lane_from s m old).frames) l (ap (λ (k : LinkState). k.frames) h.link) (ap (λ (k : LinkState). k.frames) h.other_link),
  )
      (h.down, same-frames (link_from (other s) old) (link_from (other s) new) h.back))

  pub rests-kept : (e : Event) (d : Applied) → Steps e d old new → AllRest new
  rests-kept (event.Put s source destination) did.Applied h = links-same s h.links
  rests-kept (event.Put s source destination) did.Nothing h = absurd h
  rests-kept (event.Put s source destination) (did.Refused (refusal.Put by)) h = links-same s h.stays.links
  rests-kept (event.Put s source destination) (did.Refused (refusal.Call by)) h = absurd h
  rests-kept (event.Put s source destination) (did.Refused refusal.LossRunTooLong) h = absurd h
  rests-kept (event.Put s source destination) (did.Refused refusal.NotDamaged) h = absurd h
  rests-kept (event.Cancel s id) did.Applied h = links-same s h.links
  rests-kept (event.Cancel s id) did.Nothing h = absurd h
  rests-kept (event.Cancel s id) (did.Refused (refusal.Put by)) h = absurd h
  rests-kept (event.Cancel s id) (did.Refused (refusal.Call by)) h = world-same h.same
  rests-kept (event.Cancel s id) (did.Refused refusal.LossRunTooLong) h = absurd h
  rests-kept (event.Cancel s id) (did.Refused refusal.NotDamaged) h = absurd h
  rests-kept (event.Suspend s id) did.Applied h = links-same s h.links
  rests-kept (event.Suspend s id) did.Nothing h = absurd h
  rests-kept (event.Suspend s id) (did.Refused (refusal.Put by)) h = absurd h
  rests-kept (event.Suspend s id) (did.Refused (refusal.Call by)) h = world-same h.same
  rests-kept (event.Suspend s id) (did.Refused refusal.LossRunTooLong) h = absurd h
  rests-kept (event.Suspend s id) (did.Refused refusal.NotDamaged) h = absurd h
  rests-kept (event.Resume s id) did.Applied h = links-same s h.links
  rests-kept (event.Resume s id) did.Nothing h = absurd h
  rests-kept (event.Resume s id) (did.Refused (refusal.Put by)) h = absurd h
  rests-kept (event.Resume s id) (did.Refused (refusal.Call by)) h = world-same h.same
  rests-kept (event.Resume s id) (did.Refused refusal.LossRunTooLong) h = absurd h
  rests-kept (event.Resume s id) (did.Refused refusal.NotDamaged) h = absurd h
  rests-kept (event.Prompt s id keep_alive) did.Applied h = links-same s h.links
  rests-kept (event.Prompt s id keep_alive) did.Nothing h = absurd h
  rests-kept (event.Prompt s id keep_alive) (did.Refused (refusal.Put by)) h = absurd h
  rests-kept (event.Prompt s id keep_alive) (did.Refused (refusal.Call by)) h = world-same h.same
  rests-kept (event.Prompt s id keep_alive) (did.Refused refusal.LossRunTooLong) h = absurd h
  rests-kept (event.Prompt s id keep_alive) (did.Refused refusal.NotDamaged) h = absurd h
  rests-kept (event.Poll s) did.Applied (inl h) = marks-same s h.marks (sent-rests s h)
  rests-kept (event.Poll s) did.Applied (inr h) = links-same s h.links
  rests-kept (event.Poll s) did.Nothing h = world-same h.1
  rests-kept (event.Poll s) (did.Refused by) h = absurd h
  rests-kept (event.Flush s) did.Applied h = marks-same s h.0.marks (filled-rests s h.0)
  rests-kept (event.Flush s) did.Nothing h = world-same h.1
  rests-kept (event.Flush s) (did.Refused by) h = absurd h
  rests-kept (event.Tick s now) did.Applied h = links-same s h.links
  rests-kept (event.Tick s now) did.Nothing h = absurd h
  rests-kept (event.Tick s now) (did.Refused by) h = absurd h
  rests-kept (event.Deliver s l) did.Applied h = delivered-rests s l h
  rests-kept (event.Deliver s l) did.Nothing h = world-same h.1
  rests-kept (event.Deliver s l) (did.Refused by) h = absurd h
  rests-kept (event.Strike s l) did.Applied h = lost-rests s l (strikes-loses s l old new (sound s).ways h)
  rests-kept (event.Strike s l) did.Nothing h = world-same h.1
  rests-kept (event.Strike s l) (did.Refused (refusal.Put by)) h = absurd h
  rests-kept (event.Strike s l) (did.Refused (refusal.Call by)) h = absurd h
  rests-kept (event.Strike s l) (did.Refused refusal.LossRunTooLong) h = world-same h.same
  rests-kept (event.Strike s l) (did.Refused refusal.NotDamaged) h = absurd h
  rests-kept (event.Damage s l octets) did.Applied h = lost-rests s l h.loses
  rests-kept (event.Damage s l octets) did.Nothing h = world-same h.1
  rests-kept (event.Damage s l octets) (did.Refused (refusal.Put by)) h = absurd h
  rests-kept (event.Damage s l octets) (did.Refused (refusal.Call by)) h = absurd h
  rests-kept (event.Damage s l octets) (did.Refused refusal.LossRunTooLong) h = world-same h.same
  rests-kept (event.Damage s l octets) (did.Refused refusal.NotDamaged) h = world-same h.same

-- ---- puts
-- What an event does to the puts: one more, or none.
pub puts-after : (e : Event) (d : Applied) (old new : WorldState) → Steps e d old new
    → ((s : Side) × (source : List ℕ) × (destination : List ℕ) × TakesPut s source destination old new × (e ≡ event.Put s source destination)) ⊎ (new.puts ≡ old.puts)
puts-after (event.Put s source destination) did.Applied old new h = inl (s, source, destination, h, refl)
puts-after (event.Put s source destination) did.Nothing old new h = absurd h
puts-after (event.Put s source destination) (did.Refused (refusal.Put by)) old new h = inr h.stays.counts.puts
puts-after (event.Put s source destination) (did.Refused (refusal.Call by)) old new h = absurd h
puts-after (event.Put s source destination) (did.Refused refusal.LossRunTooLong) old new h = absurd h
puts-after (event.Put s source destination) (did.Refused refusal.NotDamaged) old new h = absurd h
puts-after (event.Cancel s id) did.Applied old new h = inr h.counts.puts
puts-after (event.Cancel s id) did.Nothing old new h = absurd h
puts-after (event.Cancel s id) (did.Refused (refusal.Put by)) old new h = absurd h
puts-after (event.Cancel s id) (did.Refused (refusal.Call by)) old new h = inr (ap (λ (w : WorldState). w.puts) h.same)
puts-after (event.Cancel s id) (did.Refused refusal.LossRunTooLong) old new h = absurd h
puts-after (event.Cancel s id) (did.Refused refusal.NotDamaged) old new h = absurd h
puts-after (event.Suspend s id) did.Applied old new h = inr h.counts.puts
puts-after (event.Suspend s id) did.Nothing old new h = absurd h
puts-after (event.Suspend s id) (did.Refused (refusal.Put by)) old new h = absurd h
puts-after (event.Suspend s id) (did.Refused (refusal.Call by)) old new h = inr (ap (λ (w : WorldState). w.puts) h.same)
puts-after (event.Suspend s id) (did.Refused refusal.LossRunTooLong) old new h = absurd h
puts-after (event.Suspend s id) (did.Refused refusal.NotDamaged) old new h = absurd h
puts-after (event.Resume s id) did.Applied old new h = inr h.counts.puts
puts-after (event.Resume s id) did.Nothing old new h = absurd h
puts-after (event.Resume s id) (did.Refused (refusal.Put by)) old new h = absurd h
puts-after (event.Resume s id) (did.Refused (refusal.Call by)) old new h = inr (ap (λ (w : WorldState). w.puts) h.same)
puts-after (event.Resume s id) (did.Refused refusal.LossRunTooLong) old new h = absurd h
puts-after (event.Resume s id) (did.Refused refusal.NotDamaged) old new h = absurd h
puts-after (event.Prompt s id keep_alive) did.Applied old new h = inr h.counts.puts
puts-after (event.Prompt s id keep_alive) did.Nothing old new h = absurd h
puts-after (event.Prompt s id keep_alive) (did.Refused (refusal.Put by)) old new h = absurd h
puts-after (event.Prompt s id keep_alive) (did.Refused (refusal.Call by)) old new h = inr (ap (λ (w : WorldState). w.puts) h.same)
puts-after (event.Prompt s id keep_alive) (did.Refused refusal.LossRunTooLong) old new h = absurd h
puts-after (event.Prompt s id keep_alive) (did.Refused refusal.NotDamaged) old new h = absurd h
puts-after (event.Poll s) did.Applied old new (inl h) = inr h.marks.counts.puts
puts-after (event.Poll s) did.Applied old new (inr h) = inr h.counts.puts
puts-after (event.Poll s) did.Nothing old new h = inr (ap (λ (w : WorldState). w.puts) h.1)
puts-after (event.Poll s) (did.Refused by) old new h = absurd h
puts-after (event.Flush s) did.Applied old new h = inr h.0.marks.counts.puts
puts-after (event.Flush s) did.Nothing old new h = inr (ap (λ (w : WorldState). w.puts) h.1)
puts-after (event.Flush s) (did.Refused by) old new h = absurd h
puts-after (event.Tick s now) did.Applied old new h = inr h.puts
puts-after (event.Tick s now) did.Nothing old new h = absurd h
puts-after (event.Tick s now) (did.Refused by) old new h = absurd h
puts-after (event.Deliver s l) did.Applied old new h = inr h.counts.puts
puts-after (event.Deliver s l) did.Nothing old new h = inr (ap (λ (w : WorldState). w.puts) h.1)
puts-after (event.Deliver s l) (did.Refused by) old new h = absurd h
puts-after (event.Strike s l) did.Applied old new h = inr h.counts.puts
puts-after (event.Strike s l) did.Nothing old new h = inr (ap (λ (w : WorldState). w.puts) h.1)
puts-after (event.Strike s l) (did.Refused (refusal.Put by)) old new h = absurd h
puts-after (event.Strike s l) (did.Refused (refusal.Call by)) old new h = absurd h
puts-after (event.Strike s l) (did.Refused refusal.LossRunTooLong) old new h = inr (ap (λ (w : WorldState). w.puts) h.same)
puts-after (event.Strike s l) (did.Refused refusal.NotDamaged) old new h = absurd h
puts-after (event.Damage s l octets) did.Applied old new h = inr h.loses.counts.puts
puts-after (event.Damage s l octets) did.Nothing old new h = inr (ap (λ (w : WorldState). w.puts) h.1)
puts-after (event.Damage s l octets) (did.Refused (refusal.Put by)) old new h = absurd h
puts-after (event.Damage s l octets) (did.Refused (refusal.Call by)) old new h = absurd h
puts-after (event.Damage s l octets) (did.Refused refusal.LossRunTooLong) old new h = inr (ap (λ (w : WorldState). w.puts) h.same)
puts-after (event.Damage s l octets) (did.Refused refusal.NotDamaged) old new h = inr (ap (λ (w : WorldState). w.puts) h.same)

is-one : (p q : AcceptedPut) → Contains (p ∷ []) q → q ≡ p
is-one p q (zero, low, e) = sym e
is-one p q (suc k, low, e) = absurd (omega (arith, low))

-- one more, with an id that none has
apart-more : (puts : List AcceptedPut) (p : AcceptedPut) → AreApart puts → ((q : AcceptedPut) → Contains puts q → q.id ≢ p.id) → AreApart (puts ++ p ∷ [])
apart-more [] p is fresh = ((λ q c e. none q c), tt)
  where
    none : (q : AcceptedPut) → Contains [] q → ⊥
    none q (k, low, e) = omega (arith, low)
apart-more (x ∷ puts) p is fresh = (
  (λ q c. elim (Contains-append_cases puts (p ∷ []) q c) [
    | inl before ↦ is.0 q before
    | inr last ↦ (λ e. fresh x (zero, omega arith, refl) (sym e ∙ ap (λ (r : AcceptedPut). r.id) (is-one p q last)))
  ]),
  apart-more puts p is.1 (λ q c. fresh q (suc c.0, omega (arith, c.1), c.2)),
)

pub apart-kept : (e : Event) (d : Applied) (old new : WorldState) → IsSound old → Steps e d old new → AreApart old.puts → AreApart new.puts
apart-kept e d old new sound h is = elim (puts-after e d old new h) [
  | inl t ↦ taken t.0 t.1 t.2 t.3
  | inr same ↦ subst AreApart (sym same) is
]
  where
    taken : (s : Side) (source destination : List ℕ) → TakesPut s source destination old new → AreApart new.puts
    taken s source destination t =
        subst AreApart (sym t.puts)
        (apart-more old.puts (record { id = t.id; source = source; destination = destination }) is (λ q c same.
        let own : q.id.source ≡ _ = ap (λ (i : TransactionId). i.source) (same ∙ t.accepts.is_next) in
        let number : q.id.number ≡ _ = ap (λ (i : TransactionId). i.number) (same ∙ t.accepts.is_next) in
        let below = (sound s).numbers q c own in
        omega (arith, number, below)))
