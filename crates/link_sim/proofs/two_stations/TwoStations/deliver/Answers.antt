use Rattle.std.proofs.Common.{◌≤◌, sym, subst}
use Rattle.aos_frame.specs.declared.config.Lane.{Lane}
use Rattle.link_stack.specs.Downward.{DownState, lane_down}
use Rattle.station_pair.specs.declared.side.Side.{Side}
use Rattle.station_pair.specs.declared.side.Side.TheVariants.{One, Two}
use Rattle.link_sim.specs.AtStation.{AreCarried}
use Rattle.link_sim.specs.FrameLink.{lane_of_links}
use Rattle.link_sim.specs.World.State.{WorldState}
use Rattle.link_sim.specs.World.Steps.{Delivers}
use Rattle.link_sim.proofs.Events.AtStations.{arrived-down, arrived-set-up, arrived_all}
use Rattle.link_sim.proofs.Events.InWorlds.{delivers-one, delivers-two, world_of}
use Rattle.link_sim.proofs.two_stations.TwoStations.deliver.Goals as goal

pub invariant_of-self : goal.invariant_of-self
invariant_of-self g c =
    let i = c.self.inside in
    let is = c.self.invariant in
    let e = c.deliver_at.ensures in
    let there : AreCarried i.one.down c.deliver_at.new.links c.deliver_at.new.station.up = arrived_all c.args.lane c.deliver_at.result i.one.down i.from_one c.deliver_at.new.links i.two c.deliver_at.new.station e.does e.other is.0 in
    (there, subst (λ (d : DownState). AreCarried d i.from_two i.one.up) (sym (arrived-down c.deliver_at.result c.args.lane (lane_of_links c.args.lane i.from_one) (lane_of_links c.args.lane c.deliver_at.new.links) i.two c.deliver_at.new.station e.does)) is.1, is.2, subst (λ (d : DownState). (l : Lane) → 8192 ≤ (lane_down l d).capacity) (sym (arrived-down c.deliver_at.result c.args.lane (lane_of_links c.args.lane i.from_one) (lane_of_links c.args.lane c.deliver_at.new.links) i.two c.deliver_at.new.station e.does)) is.3, is.4, arrived-set-up i.config.two.receives i.one.down i.from_one c.deliver_at.new.links i.two.up c.deliver_at.new.station.up is.0 there is.5)

pub returns-in-One : goal.returns-in-One
returns-in-One g c =
    let i = c.self.inside in
    let e = c.deliver_at.ensures in
    let r = c.deliver_at.result in
    let l : Lane = c.args.lane in
    let new : WorldState = world_of i.one c.deliver_at.new.station c.deliver_at.new.links i.from_two i.puts.items i.ticks in
    subst (λ (s : Side). Delivers r s l c.args.self.now new) (sym c.in-One.is) (subst (λ (w : WorldState). Delivers r One l w new) c.self.view_is
    (delivers-one l i.from_one c.deliver_at.new.links i.from_two i.two c.deliver_at.new.station i.one i.puts.items i.ticks e.other (arrived-down c.deliver_at.result c.args.lane (lane_of_links c.args.lane i.from_one) (lane_of_links c.args.lane c.deliver_at.new.links) i.two c.deliver_at.new.station e.does) r e.does (c.self.invariant.0 l)))

pub invariant_of-self-in-Two : goal.invariant_of-self-in-Two
invariant_of-self-in-Two g c =
    let i = c.self.inside in
    let is = c.self.invariant in
    let e = c.deliver_at-in-Two.ensures in
    let there : AreCarried i.two.down c.deliver_at-in-Two.new.links c.deliver_at-in-Two.new.station.up = arrived_all c.args.lane c.deliver_at-in-Two.result i.two.down i.from_two c.deliver_at-in-Two.new.links i.one c.deliver_at-in-Two.new.station e.does e.other is.1 in
    (subst (λ (d : DownState). AreCarried d i.from_one i.two.up) (sym (arrived-down c.deliver_at-in-Two.result c.args.lane (lane_of_links c.args.lane i.from_two) (lane_of_links c.args.lane c.deliver_at-in-Two.new.links) i.one c.deliver_at-in-Two.new.station e.does)) is.0, there, subst (λ (d : DownState). (l : Lane) → 8192 ≤ (lane_down l d).capacity) (sym (arrived-down c.deliver_at-in-Two.result c.args.lane (lane_of_links c.args.lane i.from_two) (lane_of_links c.args.lane c.deliver_at-in-Two.new.links) i.one c.deliver_at-in-Two.new.station e.does)) is.2, is.3, arrived-set-up i.config.one.receives i.two.down i.from_two c.deliver_at-in-Two.new.links i.one.up c.deliver_at-in-Two.new.station.up is.1 there is.4, is.5)

pub returns-in-Two : goal.returns-in-Two
returns-in-Two g c =
    let i = c.self.inside in
    let e = c.deliver_at-in-Two.ensures in
    let r = c.deliver_at-in-Two.result in
    let l : Lane = c.args.lane in
    let new : WorldState = world_of c.deliver_at-in-Two.new.station i.two i.from_one c.deliver_at-in-Two.new.links i.puts.items i.ticks in
    subst (λ (s : Side). Delivers r s l c.args.self.now new) (sym c.in-Two.is) (subst (λ (w : WorldState). Delivers r Two l w new) c.self.view_is
    (delivers-two l i.from_two c.deliver_at-in-Two.new.links i.from_one i.one c.deliver_at-in-Two.new.station i.two i.puts.items i.ticks e.other (arrived-down c.deliver_at-in-Two.result c.args.lane (lane_of_links c.args.lane i.from_two) (lane_of_links c.args.lane c.deliver_at-in-Two.new.links) i.one c.deliver_at-in-Two.new.station e.does) r e.does (c.self.invariant.1 l)))
