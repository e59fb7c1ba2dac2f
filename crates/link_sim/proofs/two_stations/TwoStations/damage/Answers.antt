use Rattle.std.proofs.Common.{◌≡◌, ◌≤◌, ℕ, List, sym, subst}
use Rattle.aos_frame.specs.Frame.{lane_channel}
use Rattle.aos_frame.specs.declared.config.ChannelConfig.{ChannelConfig}
use Rattle.aos_frame.specs.declared.config.Lane.{Lane}
use Rattle.aos_frame.specs.declared.config.LinkConfig.{LinkConfig}
use Rattle.link_stack.specs.Downward.{DownState, lane_down}
use Rattle.station_pair.specs.declared.side.Side.{Side}
use Rattle.station_pair.specs.declared.side.Side.TheVariants.{One, Two}
use Rattle.station_pair.specs.Stations.{other, station_of}
use Rattle.link_sim.specs.AtStation.{AreCarried, DamagesAt}
use Rattle.link_sim.specs.FrameLink.{lane_of_links}
use Rattle.link_sim.specs.World.State.{WorldState}
use Rattle.link_sim.specs.World.Steps.{Damages}
use Rattle.link_sim.proofs.Events.Damaged.{damaged-down, damaged-set-up, damaged_all, damages-one, damages-two}
use Rattle.link_sim.proofs.Events.InWorlds.{world_of}
use Rattle.link_sim.proofs.two_stations.TwoStations.damage.Goals as goal

pub invariant_of-self : goal.invariant_of-self
invariant_of-self g c =
    let i = c.self.inside in
    let is = c.self.invariant in
    let e = c.damage_at.ensures in
    let l : Lane = c.args.lane in
    let octets : List ℕ = c.args.octets.now in
    let link : LinkConfig = i.config.two.receives in
    let here : c.channel_from-channel.result ≡ lane_channel l link = subst (λ (s : Side). c.channel_from-channel.result ≡ lane_channel l (station_of (other s) i.config).receives) c.in-One.is c.channel_from-channel.ensures in
    let did : DamagesAt c.damage_at.result (lane_channel l link) octets (lane_of_links l i.from_one) (lane_of_links l c.damage_at.new.links) i.two c.damage_at.new.station =
    subst (λ (x : ChannelConfig). DamagesAt c.damage_at.result x octets (lane_of_links l i.from_one) (lane_of_links l c.damage_at.new.links) i.two c.damage_at.new.station) here e.does in
    let down = damaged-down l octets link i.from_one c.damage_at.new.links i.two c.damage_at.new.station is.5 e.other c.damage_at.result did in (
      damaged_all l octets link i.from_one c.damage_at.new.links i.two c.damage_at.new.station is.5 e.other c.damage_at.result i.one.down did is.0,
      subst (λ (d : DownState). AreCarried d i.from_two i.one.up) (sym down) is.1,
      is.2,
      subst (λ (d : DownState). (x : Lane) → 8192 ≤ (lane_down x d).capacity) (sym down) is.3,
      is.4,
      damaged-set-up l octets link i.from_one c.damage_at.new.links i.two c.damage_at.new.station is.5 e.other c.damage_at.result did,
    )

pub returns-in-One : goal.returns-in-One
returns-in-One g c =
    let i = c.self.inside in
    let is = c.self.invariant in
    let e = c.damage_at.ensures in
    let r = c.damage_at.result in
    let l : Lane = c.args.lane in
    let octets : List ℕ = c.args.octets.now in
    let link : LinkConfig = i.config.two.receives in
    let here : c.channel_from-channel.result ≡ lane_channel l link = subst (λ (s : Side). c.channel_from-channel.result ≡ lane_channel l (station_of (other s) i.config).receives) c.in-One.is c.channel_from-channel.ensures in
    let did : DamagesAt r (lane_channel l link) octets (lane_of_links l i.from_one) (lane_of_links l c.damage_at.new.links) i.two c.damage_at.new.station =
    subst (λ (x : ChannelConfig). DamagesAt r x octets (lane_of_links l i.from_one) (lane_of_links l c.damage_at.new.links) i.two c.damage_at.new.station) here e.does in
    let new : WorldState = world_of i.one c.damage_at.new.station c.damage_at.new.links i.from_two i.puts.items i.ticks in
    subst (λ (s : Side). Damages r s l octets c.args.self.now new) (sym c.in-One.is) (subst (λ (w : WorldState). Damages r One l octets w new) c.self.view_is
    (damages-one l octets link i.from_one c.damage_at.new.links i.from_two i.two c.damage_at.new.station i.one i.puts.items i.ticks is.5 e.other r did is.0))

pub invariant_of-self-in-Two : goal.invariant_of-self-in-Two
invariant_of-self-in-Two g c =
    let i = c.self.inside in
    let is = c.self.invariant in
    let e = c.damage_at-in-Two.ensures in
    let l : Lane = c.args.lane in
    let octets : List ℕ = c.args.octets.now in
    let link : LinkConfig = i.config.one.receives in
    let here : c.channel_from-channel.result ≡ lane_channel l link = subst (λ (s : Side). c.channel_from-channel.result ≡ lane_channel l (station_of (other s) i.config).receives) c.in-Two.is c.channel_from-channel.ensures in
    let did : DamagesAt c.damage_at-in-Two.result (lane_channel l link) octets (lane_of_links l i.from_two) (lane_of_links l c.damage_at-in-Two.new.links) i.one c.damage_at-in-Two.new.station =
    subst (λ (x : ChannelConfig). DamagesAt c.damage_at-in-Two.result x octets (lane_of_links l i.from_two) (lane_of_links l c.damage_at-in-Two.new.links) i.one c.damage_at-in-Two.new.station) here e.does in
    let down = damaged-down l octets link i.from_two c.damage_at-in-Two.new.links i.one c.damage_at-in-Two.new.station is.4 e.other c.damage_at-in-Two.result did in (
      subst (λ (d : DownState). AreCarried d i.from_one i.two.up) (sym down) is.0,
      damaged_all l octets link i.from_two c.damage_at-in-Two.new.links i.one c.damage_at-in-Two.new.station is.4 e.other c.damage_at-in-Two.result i.two.down did is.1,
      subst (λ (d : DownState). (x : Lane) → 8192 ≤ (lane_down x d).capacity) (sym down) is.2,
      is.3,
      damaged-set-up l octets link i.from_two c.damage_at-in-Two.new.links i.one c.damage_at-in-Two.new.station is.4 e.other c.damage_at-in-Two.result did,
      is.5,
    )

pub returns-in-Two : goal.returns-in-Two
returns-in-Two g c =
    let i = c.self.inside in
    let is = c.self.invariant in
    let e = c.damage_at-in-Two.ensures in
    let r = c.damage_at-in-Two.result in
    let l : Lane = c.args.lane in
    let octets : List ℕ = c.args.octets.now in
    let link : LinkConfig = i.config.one.receives in
    let here : c.channel_from-channel.result ≡ lane_channel l link = subst (λ (s : Side). c.channel_from-channel.result ≡ lane_channel l (station_of (other s) i.config).receives) c.in-Two.is c.channel_from-channel.ensures in
    let did : DamagesAt r (lane_channel l link) octets (lane_of_links l i.from_two) (lane_of_links l c.damage_at-in-Two.new.links) i.one c.damage_at-in-Two.new.station =
    subst (λ (x : ChannelConfig). DamagesAt r x octets (lane_of_links l i.from_two) (lane_of_links l c.damage_at-in-Two.new.links) i.one c.damage_at-in-Two.new.station) here e.does in
    let new : WorldState = world_of c.damage_at-in-Two.new.station i.two i.from_one c.damage_at-in-Two.new.links i.puts.items i.ticks in
    subst (λ (s : Side). Damages r s l octets c.args.self.now new) (sym c.in-Two.is) (subst (λ (w : WorldState). Damages r Two l octets w new) c.self.view_is
    (damages-two l octets link i.from_two c.damage_at-in-Two.new.links i.from_one i.one c.damage_at-in-Two.new.station i.two i.puts.items i.ticks is.4 e.other r did is.1))
