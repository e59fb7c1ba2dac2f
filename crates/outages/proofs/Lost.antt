-- A frame that is lost: what will arrive then is what would have arrived, without a front of its
-- lane.
use Rattle.std.proofs.Common.{◌≡◌, ℕ, ◌+◌, ◌*◌, ◌<◌, ◌≤◌, ◌==◌, ◌&&◌, Bool, true, false, nat_le, nat_lt, if◌then◌else◌, List, [], ◌∷◌, ◌++◌, length, inl, inr, refl, sym, ap, ◌∙◌, arith}
use Rattle.std.proofs.lemmas.Bool.{cases_lt, le-leb, lt-leb, lt-ltb, le-ltb, ne_eqb}
use Rattle.aos_frame.specs.Frame.{other_lane}
use Rattle.aos_frame.specs.declared.config.Lane.{Lane}
use Rattle.mpdu.specs.Packets.{busy}
use Rattle.mpdu.specs.Reading.{held_at}
use Rattle.mpdu.proofs.Zone.{end_more}
use Rattle.link_stack.specs.Downward.{LinkSenderState, lane_down}
use Rattle.link_stack.specs.Frames.{pdus_in}
use Rattle.link_stack.specs.Upward.{LinkReceiverState, UpState, lane_of, lane_up}
use Rattle.station_pair.specs.Stations.{other}
use Rattle.station_pair.specs.declared.side.Side.{Side}
use Rattle.link_sim.specs.OneWay.{OneWayState, arriving, packets_sent, unbroken}
use Rattle.link_sim.specs.Runs.{IsSwapped}
use Rattle.link_sim.specs.World.State.{AreWays, LinkState, WorldState, arriving_from, station_at, way_from}
use Rattle.link_sim.specs.World.Steps.{DamagesFrame, LosesFrame, StrikesFrame}
use Rattle.link_sim.proofs.Events.Keeping.{both}
use Rattle.link_sim.proofs.Lanes.Each.{either-lane}
use Rattle.link_sim.proofs.Lanes.Joined.{swapped-same, take-from-lane}
use Rattle.link_sim.proofs.Lanes.Same.{same-arriving}
use Rattle.link_sim.proofs.Lanes.Ways.{back-loses, strikes-loses}
use Rattle.link_sim.proofs.Ways.Sending.{pdus_more}

-- ---- packets
-- the second list is what stands after a front of the first one
pub record IsCut (all left : List (List ℕ)) : Type 0 where
  pub gone : List (List ℕ)
  pub is : all ≡ gone ++ left

cut-none : (xs : List (List ℕ)) → IsCut xs xs
cut-none xs = record { gone = []; is = refl }

cut-first : (p : List ℕ) (xs ys : List (List ℕ)) → IsCut xs ys → IsCut (p ∷ xs) ys
cut-first p xs ys c = record { gone = p ∷ c.gone; is = ap (λ l. p ∷ l) c.is }

-- if one may be left out at the beginning
cut-maybe : (t : Bool) (p : List ℕ) (ps : List (List ℕ)) → IsCut (p ∷ ps) (if t then ps else p ∷ ps)
cut-maybe true p ps = cut-first p ps ps (cut-none ps)
cut-maybe false p ps = cut-none (p ∷ ps)

maybe-cut : (t : Bool) (p : List ℕ) (ps ys : List (List ℕ)) → IsCut ps ys → IsCut (if t then ps else p ∷ ps) ys
maybe-cut true p ps ys c = c
maybe-cut false p ps ys c = cut-first p ps ys c

unbroken-cut : (limit from : ℕ) (ps : List (List ℕ)) → IsCut ps (unbroken limit from [] ps)
unbroken-cut limit from [] = cut-none []
unbroken-cut limit from (p ∷ ps) =
    let rest : IsCut ps (unbroken limit (from + length p) [] ps) = unbroken-cut limit (from + length p) ps in
    elim (cases_lt limit (from + length p)) [
      | inl c ↦ rw (lt-leb (from + length p) limit c) (cut-maybe (nat_lt from limit && nat_le (length {A = ℕ} []) 0) p ps)
      | inr c ↦ rw (le-leb (from + length p) limit c) (cut-first p ps (unbroken limit (from + length p) [] ps) rest)
    ]

-- the limit moves on, and nothing is held any more
loses-cut : (limit next from : ℕ) (held : List ℕ) (ps : List (List ℕ)) → limit ≤ next → IsCut (unbroken limit from held ps) (unbroken next from [] ps)
loses-cut limit next from held [] le = cut-none []
loses-cut limit next from held (p ∷ ps) le =
    let b : ℕ = from + length p in
    let t : Bool = nat_lt from limit && nat_le (length held) 0 in
    let u : Bool = nat_lt from next && nat_le (length {A = ℕ} []) 0 in
    let G : Type 0 = IsCut (unbroken limit from held (p ∷ ps)) (unbroken next from [] (p ∷ ps)) in
    let rest : IsCut (unbroken limit b held ps) (unbroken next b [] ps) = loses-cut limit next b held ps le in
    let before : b ≤ limit → G = λ (c : b ≤ limit). rw (le-leb b limit c, le-leb b next (omega (arith, c, le))) rest in
    let inside : limit < b → b ≤ next → G = λ (c : limit < b) (d : b ≤ next).
    rw (lt-leb b limit c, le-leb b next d) (maybe-cut t p ps (unbroken next b [] ps) (unbroken-cut next b ps)) in
    let cuts : limit < b → next < b → from < limit → G = λ (c : limit < b) (d : next < b) (e : from < limit).
    rw (lt-leb b limit c, lt-leb b next d, lt-ltb from next (omega (arith, e, le))) (maybe-cut t p ps ps (cut-none ps)) in
    let past : limit < b → next < b → limit ≤ from → G = λ (c : limit < b) (d : next < b) (e : limit ≤ from).
    rw (lt-leb b limit c, lt-leb b next d, le-ltb from limit e) (cut-maybe u p ps) in
    elim (cases_lt limit b) [
      | inr c ↦ before c
      | inl c ↦ elim (cases_lt next b) [
        | inr d ↦ inside c d
        | inl d ↦ elim (cases_lt from limit) [ inl e ↦ cuts c d e | inr e ↦ past c d e ]
      ]
    ]

-- ---- a lane
-- one that lost its oldest frame
lost-lane : (old new : OneWayState) → new.down ≡ old.down → packets_sent new ≡ packets_sent old → new.marks ≡ old.marks ++ false ∷ [] → new.run ≡ old.run + 1 → IsCut (arriving old) (arriving new)
lost-lane old new down packets marks run =
    let z : ℕ = old.down.link.zone in
    let ps : List (List ℕ) = packets_sent old in
    let limit : ℕ = length old.marks * z in
    let next : ℕ = length (old.marks ++ false ∷ []) * z in
    let held : List ℕ = held_at (old.run == 0) old.up.begun in
    let more : next ≡ limit + z = end_more z old.marks false in
    let c : IsCut (unbroken limit 0 held ps) (unbroken next 0 [] ps) = loses-cut limit next 0 held ps (omega (arith, more)) in
    let to : length new.marks * new.down.link.zone ≡ next = ap (λ m. length m * new.down.link.zone) marks ∙ ap (λ (d : LinkSenderState). length (old.marks ++ false ∷ []) * d.link.zone) down in
    let apart : (old.run + 1 == 0) ≡ false = ne_eqb (old.run + 1) 0 (λ e. omega (arith, e)) in
    let none : held_at (new.run == 0) new.up.begun ≡ [] = ap (λ r. held_at (r == 0) new.up.begun) run ∙ ap (λ b. held_at b new.up.begun) apart in
    let is : arriving new ≡ pdus_in (busy (unbroken next 0 [] ps)) =
    ap (λ n. pdus_in (busy (unbroken n 0 (held_at (new.run == 0) new.up.begun) (packets_sent new)))) to
    ∙ ap (λ h. pdus_in (busy (unbroken next 0 h (packets_sent new)))) none
    ∙ ap (λ l. pdus_in (busy (unbroken next 0 [] l))) packets in
    record {
      gone = pdus_in (busy c.gone);
      is = ap (λ l. pdus_in (busy l)) c.is ∙ pdus_more c.gone (unbroken next 0 [] ps) ∙ ap (λ l. pdus_in (busy c.gone) ++ l) (sym is);
    }

-- one that stays, whatever its end counts
same-lane : (old new : OneWayState) → new.down ≡ old.down → packets_sent new ≡ packets_sent old → new.marks ≡ old.marks → new.run ≡ old.run → new.up.begun ≡ old.up.begun → arriving new ≡ arriving old
same-lane old new down packets marks run begun =
    ap (λ ps. pdus_in (busy (unbroken (length new.marks * new.down.link.zone) 0 (held_at (new.run == 0) new.up.begun) ps))) packets
    ∙ ap (λ (m : List Bool). pdus_in (busy (unbroken (length m * new.down.link.zone) 0 (held_at (new.run == 0) new.up.begun) (packets_sent old)))) marks
    ∙ ap (λ (d : LinkSenderState). pdus_in (busy (unbroken (length old.marks * d.link.zone) 0 (held_at (new.run == 0) new.up.begun) (packets_sent old)))) down
    ∙ ap (λ r. pdus_in (busy (unbroken (length old.marks * old.down.link.zone) 0 (held_at (r == 0) new.up.begun) (packets_sent old)))) run
    ∙ ap (λ h. pdus_in (busy (unbroken (length old.marks * old.down.link.zone) 0 (held_at (old.run == 0) h) (packets_sent old)))) begun

-- ---- a world
-- A frame was lost, and what the other station holds of a begun packet stays.
pub record Loses (s : Side) (l : Lane) (old new : WorldState) : Type 0 where
  pub loses : LosesFrame s l old new
  pub begun : (m : Lane) → (lane_up m (station_at (other s) new).up).begun ≡ (lane_up m (station_at (other s) old).up).begun

pub strikes : (s : Side) (l : Lane) (old new : WorldState) → AreWays s old → StrikesFrame s l old new → Loses s l old new
strikes s l old new are h = record { loses = strikes-loses s l old new are h; begun = λ m. ap (λ x. (lane_up m x.up).begun) h.spares.station }

pub damages : (s : Side) (l : Lane) (octets : List ℕ) (old new : WorldState) → DamagesFrame s l octets old new → Loses s l old new
damages s l octets old new h =
    let u : UpState = (station_at (other s) old).up in
    record {
      loses = h.loses;
      begun = either-lane (λ m. (lane_up m (station_at (other s) new).up).begun ≡ (lane_up m u).begun) (lane_of u octets)
          (ap (λ (r : LinkReceiverState). r.begun) h.counted) (ap (λ (r : LinkReceiverState). r.begun) h.other_up);
    }

-- What will arrive from a station is some of what would have arrived, of each lane in order.
pub record IsLeft (all left : List (List ℕ)) : Type 0 where
  pub gone : List (List ℕ)
  pub swaps : IsSwapped all (gone ++ left)

pub left-same : (all left : List (List ℕ)) → left ≡ all → IsLeft all left
left-same all left is = record { gone = []; swaps = swapped-same all left is }

pub left-after : (s : Side) (l : Lane) (old new : WorldState) → Loses s l old new → (t : Side) → IsLeft (arriving_from t old) (arriving_from t new)
left-after s l old new h = both (λ t. IsLeft (arriving_from t old) (arriving_from t new)) s here
    (left-same (arriving_from (other s) old) (arriving_from (other s) new) (same-arriving (other s) old new (back-loses s l old new h.loses)))
  where
    down-same : (m : Lane) → lane_down m (station_at s new).down ≡ lane_down m (station_at s old).down
    down-same m = ap (λ x. lane_down m x.down) h.loses.station

    cut : IsCut (arriving (way_from s l old)) (arriving (way_from s l new))
    cut = lost-lane (way_from s l old) (way_from s l new) (down-same l) (h.loses.sends l).packets (ap (λ (k : LinkState). k.marks) h.loses.link) (ap (λ (k : LinkState). k.run) h.loses.link)

    that : arriving (way_from s (other_lane l) new) ≡ arriving (way_from s (other_lane l) old)
    that =
        let m : Lane = other_lane l in
        same-lane (way_from s m old) (way_from s m new) (down-same m) (h.loses.sends m).packets (ap (λ (k : LinkState). k.marks) h.loses.other_link) (ap (λ (k : LinkState). k.run) h.loses.other_link) (h.begun m)

    here : IsLeft (arriving_from s old) (arriving_from s new)
    here = record { gone = cut.gone; swaps = take-from-lane l (λ m. arriving (way_from s m old)) (λ m. arriving (way_from s m new)) cut.gone cut.is that }
