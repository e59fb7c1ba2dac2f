-- What a direction delivered and what was sent on it, once a frame of one of its lanes was taken.
use Rattle.std.proofs.Common.{◌≡◌, ℕ, List, ◌++◌, drop, ap, subst}
use Rattle.std.specs.Prelude.{Contains}
use Rattle.std.proofs.lemmas.List.Elements.{Contains-append_right}
use Rattle.aos_frame.specs.declared.config.Lane.{Lane}
use Rattle.mpdu.specs.Packets.{busy}
use Rattle.mpdu.specs.Parts.{IsPartOf}
use Rattle.mpdu.specs.Stream.{survivors}
use Rattle.mpdu.proofs.Fewer.{survivors-busy}
use Rattle.mpdu.proofs.Parts.{part-map}
use Rattle.link_stack.specs.Frames.{pdus_in}
use Rattle.station_pair.specs.declared.side.Side.{Side}
use Rattle.link_sim.specs.OneWay.{OneWayState, packets_sent, pdus_delivered, pdus_sent}
use Rattle.link_sim.specs.Runs.{IsSwapped}
use Rattle.link_sim.specs.World.State.{WorldState, delivered_from, sent_from, way_from}
use Rattle.link_sim.specs.World.Steps.{DeliversFrame, LosesFrame}
use Rattle.link_sim.proofs.Lanes.Each.{either-lane}
use Rattle.link_sim.proofs.Lanes.Joined.{among-both, among-one, lanes-same, put-in-lane, swapped-among}
use Rattle.link_sim.proofs.Lanes.Ways.{other-delivers}

-- ---- a frame that is delivered
-- what it delivers is after what its lane delivered
pub delivered-more : (s : Side) (l : Lane) (old new : WorldState) → (h : DeliversFrame s l old new) → IsSwapped (delivered_from s old ++ h.hears.more) (delivered_from s new)
delivered-more s l old new h =
    put-in-lane l (λ m. pdus_delivered (way_from s m old)) (λ m. pdus_delivered (way_from s m new)) h.hears.more h.hears.delivered (ap pdus_delivered (other-delivers s l old new h))

-- the same was sent
pub delivers-sent : (s : Side) (l : Lane) (old new : WorldState) → DeliversFrame s l old new → sent_from s new ≡ sent_from s old
delivers-sent s l old new h =
    lanes-same (λ m. pdus_sent (way_from s m old)) (λ m. pdus_sent (way_from s m new))
    (either-lane (λ m. pdus_sent (way_from s m new) ≡ pdus_sent (way_from s m old)) l (ap (λ ps. pdus_in (busy ps)) h.hears.packets) (ap pdus_sent (other-delivers s l old new h)))

-- ---- a frame that is lost
pub loses-sent : (s : Side) (l : Lane) (old new : WorldState) → LosesFrame s l old new → sent_from s new ≡ sent_from s old
loses-sent s l old new h =
    lanes-same (λ m. pdus_sent (way_from s m old)) (λ m. pdus_sent (way_from s m new)) (λ m. ap (λ ps. pdus_in (busy ps)) (h.sends m).packets)

pub loses-delivered : (s : Side) (l : Lane) (old new : WorldState) → LosesFrame s l old new → delivered_from s new ≡ delivered_from s old
loses-delivered s l old new h =
    lanes-same (λ m. pdus_delivered (way_from s m old)) (λ m. pdus_delivered (way_from s m new)) (λ m. (h.sends m).delivered)

-- ---- what was delivered was sent
part-delivered : (w : OneWayState) → IsPartOf (pdus_delivered w) (pdus_sent w)
part-delivered w =
    let z = w.up.link.zone in
    part-map (λ p. drop 6 p) (survivors z w.marks 0 (packets_sent w)) (busy (packets_sent w)) (survivors-busy z w.marks 0 (packets_sent w))

module _ (in_whole : (whole part : List (List ℕ)) (x : List ℕ) → IsPartOf part whole → Contains part x → Contains whole x) where
  pub delivered-sent : (s : Side) (w : WorldState) (x : List ℕ) → Contains (delivered_from s w) x → Contains (sent_from s w) x
  delivered-sent s w x c =
      let one : (l : Lane) × Contains (pdus_delivered (way_from s l w)) x = among-one (λ m. pdus_delivered (way_from s m w)) x c in
      among-both one.0 (λ m. pdus_sent (way_from s m w)) x
      (in_whole (pdus_sent (way_from s one.0 w)) (pdus_delivered (way_from s one.0 w)) x (part-delivered (way_from s one.0 w)) one.1)

  -- what is given of a frame was delivered by it, and was sent
  pub given-heard : (s : Side) (l : Lane) (old new : WorldState) → (h : DeliversFrame s l old new) → (x : List ℕ) → Contains h.given x → Contains (delivered_from s old ++ h.hears.more) x
  given-heard s l old new h x c = Contains-append_right (delivered_from s old) h.hears.more x (in_whole h.hears.more h.given x h.hears.part c)

  pub given-delivered : (s : Side) (l : Lane) (old new : WorldState) → (h : DeliversFrame s l old new) → (x : List ℕ) → Contains h.given x → Contains (delivered_from s new) x
  given-delivered s l old new h x c =
      swapped-among (delivered_from s old ++ h.hears.more) (delivered_from s new) (delivered-more s l old new h) x (given-heard s l old new h x c)

  pub given-sent : (s : Side) (l : Lane) (old new : WorldState) → (h : DeliversFrame s l old new) → (x : List ℕ) → Contains h.given x → Contains (sent_from s old) x
  given-sent s l old new h x c =
      subst (λ (ps : List (List ℕ)). Contains ps x) (delivers-sent s l old new h) (delivered-sent s new x (given-delivered s l old new h x c))
