-- Both lanes of both directions of a first world: nothing was sent, and nothing taken.
use Rattle.std.proofs.Common.{◌≡◌, ℕ, ◌*◌, true, [], length, refl, sym, ap, subst, ◌∙◌, arith}
use Rattle.cfdp_header.specs.Files.{FileMap}
use Rattle.aos_frame.specs.Frame.{IsChannel, IsLink, lane_channel}
use Rattle.aos_frame.specs.declared.config.Lane.{Lane}
use Rattle.aos_frame.specs.declared.config.Lane.TheVariants.{Directives, Data}
use Rattle.aos_frame.specs.declared.config.ChannelConfig.{ChannelConfig}
use Rattle.aos_frame.specs.declared.config.LinkConfig.{LinkConfig}
use Rattle.link_stack.specs.Downward.{DownState, LinkSenderState, IsDown, first_down, first_lane_down, lane_down}
use Rattle.link_stack.specs.Upward.{LinkReceiverState, IsUp, UpState, first_lane_up, first_up, lane_up}
use Rattle.link_stack.proofs.Grown.{new_is}
use Rattle.station_pair.specs.declared.side.Side.{Side}
use Rattle.station_pair.specs.declared.side.Side.TheVariants.{One, Two}
use Rattle.station_pair.specs.declared.world_config.WorldConfig.{WorldConfig}
use Rattle.link_sim.specs.OneWay.{IsOneWay, IsRested}
use Rattle.link_sim.specs.World.State.{WorldState, LanesState, LinkState, AreRested, AreWays, IsFirst, no_frames, no_lanes, on_lane, way}
use Rattle.station_pair.specs.Stations.{IsWorldConfig}
use Rattle.link_sim.proofs.Lanes.Each.{lane-valid}
use Rattle.link_sim.proofs.OnWay.Rests.{rests-unflushed}
use Rattle.link_sim.proofs.Ways.Sending.{new_way, way_is}

-- ---- a lane
pub first-down_lane : (l : Lane) (link : LinkConfig) (capacity : ℕ) → lane_down l (first_down link capacity) ≡ first_lane_down (lane_channel l link) capacity
first-down_lane Directives link capacity = refl
first-down_lane Data link capacity = refl

pub first-up_lane : (l : Lane) (link : LinkConfig) → lane_up l (first_up link) ≡ first_lane_up (lane_channel l link)
first-up_lane Directives link = refl
first-up_lane Data link = refl

none_on : (l : Lane) → on_lane l no_lanes ≡ no_frames
none_on Directives = refl
none_on Data = refl

first-sends : (link : ChannelConfig) (capacity : ℕ) → IsDown (first_lane_down link capacity) [] 0
first-sends link capacity =
    let none : 0 * link.zone ≡ 0 = omega arith in
    record { packed = record { packets_whole = tt; below = omega arith; rest = rw none refl; start = rw none refl }; of_link = tt; counted = refl }

first-takes : (link : ChannelConfig) → IsUp (first_lane_up link) [] [] 0
first-takes link = new_is true link [] (first_lane_up link).drops refl tt tt

first-way : (d : LinkSenderState) (u : LinkReceiverState) (k : LinkState) (link : ChannelConfig) (capacity : ℕ) → IsChannel link → d ≡ first_lane_down link capacity → u ≡ first_lane_up link →
    k ≡ no_frames → IsOneWay (way d k u)
first-way d u k link capacity valid down up none =
    let is : IsOneWay (way d no_frames u) = way_is (way d no_frames u) []
    (new_way d u link capacity valid down (subst (λ x. IsDown x [] 0) (sym down) (first-sends link capacity)) up (subst (λ x. IsUp x [] [] 0) (sym up) (first-takes link))) in
    subst (λ (x : LinkState). IsOneWay (way d x u)) (sym none) is

-- nothing waits
first-rest : (d : LinkSenderState) (u : LinkReceiverState) (k : LinkState) (link : ChannelConfig) (capacity : ℕ) → IsChannel link → d ≡ first_lane_down link capacity → IsRested (way d k u)
first-rest d u k link capacity valid down = rests-unflushed (way d k u) (omega (arith, ap (λ x. length x.waiting) down, ap (λ x. x.link.zone) down, valid.least_zone)) (ap (λ x. x.flushed) down)

-- ---- both lanes of a direction
module _ (d : DownState) (k : LanesState) (u : UpState) (link : LinkConfig) (capacity : ℕ) (valid : IsLink link) (down : d ≡ first_down link capacity) (l : Lane) where
  sends_so : lane_down l d ≡ first_lane_down (lane_channel l link) capacity
  sends_so = ap (λ (x : DownState). lane_down l x) down ∙ first-down_lane l link capacity

  pub first-lane : u ≡ first_up link → k ≡ no_lanes → IsOneWay (way (lane_down l d) (on_lane l k) (lane_up l u))
  first-lane up none = first-way (lane_down l d) (lane_up l u) (on_lane l k) (lane_channel l link) capacity (lane-valid l link valid) sends_so
      (ap (λ (x : UpState). lane_up l x) up ∙ first-up_lane l link) (ap (λ (x : LanesState). on_lane l x) none ∙ none_on l)

  pub lane-rests : IsRested (way (lane_down l d) (on_lane l k) (lane_up l u))
  lane-rests = first-rest (lane_down l d) (lane_up l u) (on_lane l k) (lane_channel l link) capacity (lane-valid l link valid) sends_so

pub first-ways : (c : WorldConfig) (outboxes inboxes : FileMap × FileMap) (w : WorldState) → IsWorldConfig c → IsFirst c outboxes inboxes w → (s : Side) → AreWays s w
first-ways c outboxes inboxes w valid is One l = first-lane w.one.down w.from_one w.two.up c.one.sends c.one.capacity valid.one.sends is.one.down l (is.two.up ∙ ap first_up (sym valid.sends)) is.from_one
first-ways c outboxes inboxes w valid is Two l = first-lane w.two.down w.from_two w.one.up c.two.sends c.two.capacity valid.two.sends is.two.down l (is.one.up ∙ ap first_up valid.receives) is.from_two

pub first-rests : (c : WorldConfig) (outboxes inboxes : FileMap × FileMap) (w : WorldState) → IsWorldConfig c → IsFirst c outboxes inboxes w → (s : Side) → AreRested s w
first-rests c outboxes inboxes w valid is One l = lane-rests w.one.down w.from_one w.two.up c.one.sends c.one.capacity valid.one.sends is.one.down l
first-rests c outboxes inboxes w valid is Two l = lane-rests w.two.down w.from_two w.one.up c.two.sends c.two.capacity valid.two.sends is.two.down l
