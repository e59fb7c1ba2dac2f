-- What was lost stays lost: if a world lost nothing, none before it had.
use Rattle.std.proofs.Common.{◌≡◌, not, Bool, true, false, List, [], ◌∷◌, ◌++◌, refl, sym, ap, ◌∙◌}
use Rattle.std.specs.List.{list_any}
use Rattle.aos_frame.specs.Frame.{other_lane}
use Rattle.aos_frame.specs.declared.config.Lane.{Lane}
use Rattle.link_stack.specs.Drops.{count_of}
use Rattle.link_stack.specs.Upward.{LinkReceiverState, UpState, drop_count, lane_up}
use Rattle.station_pair.specs.declared.side.Side.{Side}
use Rattle.link_sim.specs.EveryPut.{LosesNoneAt, LosesNone}
use Rattle.station_pair.specs.Stations.{other}
use Rattle.link_sim.specs.World.State.{WorldState, LanesState, LinkState, lane_from, link_from, on_lane, station_at}
use Rattle.link_sim.specs.World.Steps.{KeepsLinks, KeepsMarks, DeliversFrame, LosesFrame}
use Rattle.link_sim.proofs.Events.Keeping.{both}
use Rattle.link_sim.proofs.Lanes.Counts.{none-sum, sum-none}
use Rattle.link_sim.proofs.Lanes.Each.{either-lane}

-- ---- marks
none-before : (marks : List Bool) (mark : Bool) → list_any not (marks ++ mark ∷ []) ≡ false → list_any not marks ≡ false
none-before [] mark all = refl
none-before (false ∷ marks) mark all = absurd cc
none-before (true ∷ marks) mark all = none-before marks mark all

none-struck : (marks : List Bool) → list_any not (marks ++ false ∷ []) ≡ false → ⊥
none-struck [] all = absurd cc
none-struck (false ∷ marks) all = absurd cc
none-struck (true ∷ marks) all = none-struck marks all

module _ (s : Side) (old new : WorldState) where
  -- ---- nothing was taken
  loses-same : ((t : Side) (l : Lane) → (lane_from t l new).marks ≡ (lane_from t l old).marks) → ((t : Side) → (station_at t new).up ≡ (station_at t old).up) → LosesNone new → LosesNone old
  loses-same marks ups none t =
      let n : LosesNoneAt t new = none t in
      record {
        none_lost = λ l. ap (λ m. list_any not m) (sym (marks t l)) ∙ n.none_lost l;
        memory = ap (λ (u : UpState). drop_count u 11) (sym (ups t)) ∙ n.memory;
      }

  marks-of : (k m : LanesState) → m ≡ k → (l : Lane) → (on_lane l m).marks ≡ (on_lane l k).marks
  marks-of k m same l = ap (λ (x : LanesState). (on_lane l x).marks) same

  pub loses-kept : KeepsLinks s old new → LosesNone new → LosesNone old
  loses-kept k =
      loses-same
      (both (λ t. (l : Lane) → (lane_from t l new).marks ≡ (lane_from t l old).marks) s (marks-of (link_from s old) (link_from s new) k.link)
      (marks-of (link_from (other s) old) (link_from (other s) new) k.spares.link))
      (both (λ t. (station_at t new).up ≡ (station_at t old).up) s k.ends.1 (ap (λ x. x.up) k.spares.station))

  pub loses-marks : KeepsMarks s old new → LosesNone new → LosesNone old
  loses-marks k =
      loses-same
      (both (λ t. (l : Lane) → (lane_from t l new).marks ≡ (lane_from t l old).marks) s k.marks (marks-of (link_from (other s) old) (link_from (other s) new) k.spares.link))
      (both (λ t. (station_at t new).up ≡ (station_at t old).up) s k.up (ap (λ x. x.up) k.spares.station))

  -- ---- a frame was taken
  pub loses-delivered : (l : Lane) → DeliversFrame s l old new → LosesNone new → LosesNone old
  loses-delivered l h none =
      let here : LosesNoneAt s new = none s in
      let there : LosesNoneAt (other s) new = none (other s) in
      let u : UpState = (station_at (other s) old).up in
      let v : UpState = (station_at (other s) new).up in
      both (λ t. LosesNoneAt t old) s
      (record {
        none_lost = either-lane (λ m. list_any not (lane_from s m old).marks ≡ false) l
            (none-before (lane_from s l old).marks true (ap (λ (k : LinkState). list_any not k.marks) (sym h.link) ∙ here.none_lost l))
            (ap (λ (k : LinkState). list_any not k.marks) (sym h.other_link) ∙ here.none_lost (other_lane l));
        memory = ap (λ x. drop_count x.up 11) (sym h.station) ∙ here.memory;
      })
      (record {
        none_lost = λ m. ap (λ (k : LanesState). list_any not (on_lane m k).marks) (sym h.back) ∙ there.none_lost m;
        memory = none-sum u 11 (either-lane (λ m. count_of (lane_up m u).drops 11 ≡ 0) l (h.hears.memory (sum-none v 11 there.memory l))
            (ap (λ (x : LinkReceiverState). count_of x.drops 11) (sym h.other_up) ∙ sum-none v 11 there.memory (other_lane l)));
      })

  pub loses-one : (l : Lane) → LosesFrame s l old new → LosesNone new → ⊥
  loses-one l h none =
      let here : LosesNoneAt s new = none s in
      none-struck (lane_from s l old).marks (ap (λ (k : LinkState). list_any not k.marks) (sym h.link) ∙ here.none_lost l)
