-- The PDUs that will arrive from a station if no more is lost, after each event of a settling.
use Rattle.std.proofs.Common.{◌≡◌, ℕ, ◌*◌, ◌-◌, ◌^◌, ◌<◌, ◌≤◌, ◌==◌, Bool, true, false, not, List, [], ◌∷◌, ◌++◌, ◌⊎◌, length, drop, refl, sym, ap, subst, ◌∙◌, inl, inr, arith}
use Rattle.std.proofs.lemmas.List.{append-nil}
use Rattle.aos_frame.specs.declared.config.Lane.{Lane}
use Rattle.mpdu.specs.Stream.{stream, is_idle, ArePackets, keep}
use Rattle.mpdu.specs.Packets.{busy}
use Rattle.mpdu.specs.Reading.{held_at}
use Rattle.link_stack.specs.Frames.{pdus_in}
use Rattle.link_stack.specs.Upward.{LinkReceiverState, drop_count, lane_up}
use Rattle.cfdp_station.specs.Link.{next_lane}
use Rattle.cfdp_station.specs.Polling.{next_pdu}
use Rattle.station_pair.specs.declared.side.Side.{Side}
use Rattle.link_sim.specs.OneWay.{OneWayState, packets_sent, pdus_sent, behind, on_way, unbroken, arriving, IsOneWay, SendsMore}
use Rattle.link_sim.specs.Runs.{IsSwapped}
use Rattle.station_pair.specs.Stations.{other}
use Rattle.link_sim.specs.World.State.{WorldState, AreWays, arriving_from, entity_at, station_at, way_from}
use Rattle.link_sim.specs.World.Steps.{SendsOne, Fills, DeliversFrame, filling}
use Rattle.link_sim.proofs.Lanes.Counts.{sum-low, sum-other}
use Rattle.link_sim.proofs.Lanes.Joined.{lanes-same, put-in-lane, take-from-lane}
use Rattle.link_sim.proofs.Lanes.Ways.{other-delivers}
use Rattle.link_sim.proofs.OnWay.Arriving.{OneFewer, unbroken-append, unbroken-behind}
use Rattle.link_sim.proofs.OnWay.Pdus.{stripped, packets-behind}
use Rattle.link_sim.proofs.OnWay.Rests.{same-link}
use Rattle.link_sim.proofs.Ways.Sending.{taken_inside, pdus_more}

-- ---- those on their way, except for the first at most
pub arriving-or : (w : OneWayState) → IsOneWay w → (on_way w ≡ arriving w) ⊎ OneFewer (on_way w) (arriving w)
arriving-or w is =
    let limit : ℕ = length w.marks * w.down.link.zone in
    let held : List ℕ = held_at (w.run == 0) w.up.begun in
    let ps : List (List ℕ) = packets_sent w in
    elim (unbroken-behind limit 0 held ps is.sent.made.packed.packets_whole) [
      | inl e ↦ inl (ap (λ l. pdus_in (busy l)) e)
      | inr o ↦ by limit held ps o (is_idle o.first) refl
    ]
  where
    by : (limit : ℕ) (held : List ℕ) (ps : List (List ℕ)) → (o : OneFewer (behind limit 0 ps) (unbroken limit 0 held ps)) → (i : Bool) → is_idle o.first ≡ i
        → (pdus_in (busy (behind limit 0 ps)) ≡ pdus_in (busy (unbroken limit 0 held ps))) ⊎ OneFewer (pdus_in (busy (behind limit 0 ps))) (pdus_in (busy (unbroken limit 0 held ps)))
    by limit held ps o true idle = inl (ap (λ l. pdus_in (busy l)) o.is ∙ ap (λ i. pdus_in (keep (not i) o.first (busy (unbroken limit 0 held ps)))) idle)
    by limit held ps o false idle = inr (record { first = drop 6 o.first; is = ap (λ l. pdus_in (busy l)) o.is ∙ ap (λ i. pdus_in (keep (not i) o.first (busy (unbroken limit 0 held ps)))) idle })

-- ---- what is sent will arrive after all that will
pub arriving-sends : (old new : OneWayState) (qs texts : List (List ℕ)) → IsOneWay old → SendsMore old new qs texts → new.up ≡ old.up → new.marks ≡ old.marks → new.run ≡ old.run → arriving new
    ≡ arriving old ++ texts
arriving-sends old new qs texts is more up marks run =
    let ps : List (List ℕ) = packets_sent old in
    let limit : ℕ = length old.marks * old.down.link.zone in
    let held : List ℕ = held_at (old.run == 0) old.up.begun in
    let link : new.down.link ≡ old.down.link = same-link old new is more.way up in
    let whole : ArePackets (ps ++ qs) = subst ArePackets more.packets more.way.sent.made.packed.packets_whole in
    let carry : texts ≡ pdus_in (busy qs) = stripped (pdus_sent old) texts (pdus_in (busy qs)) (sym more.pdus ∙ ap (λ l. pdus_in (busy l)) more.packets ∙ pdus_more ps qs) in
    let inside : limit ≤ length (stream ps) = taken_inside old ps is.sent (length old.marks) is.sent.taken in
    let to : length new.marks * new.down.link.zone ≡ limit = ap (λ m. length m * new.down.link.zone) marks ∙ ap (λ k. length old.marks * k.zone) link in
    let holds : held_at (new.run == 0) new.up.begun ≡ held = ap (λ r. held_at (r == 0) new.up.begun) run ∙ ap (λ (u : LinkReceiverState). held_at (old.run == 0) u.begun) up in
    ap (λ n. pdus_in (busy (unbroken n 0 (held_at (new.run == 0) new.up.begun) (packets_sent new)))) to
    ∙ ap (λ h. pdus_in (busy (unbroken limit 0 h (packets_sent new)))) holds
    ∙ ap (λ l. pdus_in (busy (unbroken limit 0 held l))) more.packets
    ∙ ap (λ l. pdus_in (busy l)) (unbroken-append limit 0 held ps qs (packets-behind ps qs whole) (omega (arith, inside)))
    ∙ pdus_more (unbroken limit 0 held ps) qs ∙ ap (λ l. arriving old ++ l) (sym carry)

-- ---- a poll, a flush and a frame that is delivered
pub polls-arriving : (s : Side) (old new : WorldState) → AreWays s old → SendsOne s old new → IsSwapped (arriving_from s old ++ next_pdu (entity_at s old) ∷ []) (arriving_from s new)
polls-arriving s old new is h =
    let l : Lane = next_lane (entity_at s old) in
    put-in-lane l (λ m. arriving (way_from s m old)) (λ m. arriving (way_from s m new)) (next_pdu (entity_at s old) ∷ [])
    (arriving-sends (way_from s l old) (way_from s l new) _ (next_pdu (entity_at s old) ∷ []) (is l) h.sends (ap (λ x. lane_up l x.up) h.marks.spares.station) (h.marks.marks l) (h.marks.run l))
    (ap arriving h.other)

pub fills-arriving : (s : Side) (old new : WorldState) → AreWays s old → Fills s old new → arriving_from s new ≡ arriving_from s old
fills-arriving s old new is h = lanes-same (λ l. arriving (way_from s l old)) (λ l. arriving (way_from s l new)) one
  where
    one : (l : Lane) → arriving (way_from s l new) ≡ arriving (way_from s l old)
    one l =
        arriving-sends (way_from s l old) (way_from s l new) (filling s l old) [] (is l) (h.sends l) (ap (λ x. lane_up l x.up) h.marks.spares.station) (h.marks.marks l) (h.marks.run l)
        ∙ append-nil (arriving (way_from s l old))

-- What is given were the first to arrive of their lane, if no drop was counted for lack of memory.
pub delivers-arriving : (s : Side) (l : Lane) (old new : WorldState) → (h : DeliversFrame s l old new) → drop_count (station_at (other s) new).up 11 ≡ drop_count (station_at (other s) old).up 11 →
    drop_count (station_at (other s) new).up 11 < 2 ^ 64 - 1 → IsSwapped (arriving_from s old) (h.given ++ arriving_from s new)
delivers-arriving s l old new h same low =
    let u = (station_at (other s) old).up in
    let v = (station_at (other s) new).up in
    take-from-lane l (λ m. arriving (way_from s m old)) (λ m. arriving (way_from s m new)) h.given
    (h.hears.lands (sum-other u v 11 l same low h.other_up) (sum-low v 11 low l))
    (ap arriving (other-delivers s l old new h))
