use Rattle.std.proofs.Common.{sym, subst}
use Rattle.aos_frame.specs.declared.config.Lane.{Lane}
use Rattle.station_pair.specs.declared.side.Side.{Side}
use Rattle.station_pair.specs.declared.side.Side.TheVariants.{One, Two}
use Rattle.link_sim.specs.World.State.{WorldState}
use Rattle.link_sim.specs.World.Steps.{Strikes}
use Rattle.link_sim.proofs.Events.AtStations.{struck_all}
use Rattle.link_sim.proofs.Events.InWorlds.{strikes-one, strikes-two, world_of}
use Rattle.link_sim.proofs.two_stations.TwoStations.strike.Goals as goal

pub invariant_of-self : goal.invariant_of-self
invariant_of-self g c =
    let i = c.self.inside in
    let is = c.self.invariant in
    let e = c.strike_at.ensures in
    (struck_all c.args.lane c.strike_at.result i.one.down i.from_one c.strike_at.new.links i.two.up e.does e.other is.0, is.1, is.2, is.3, is.4, is.5)

pub returns-in-One : goal.returns-in-One
returns-in-One g c =
    let i = c.self.inside in
    let e = c.strike_at.ensures in
    let r = c.strike_at.result in
    let l : Lane = c.args.lane in
    let new : WorldState = world_of i.one i.two c.strike_at.new.links i.from_two i.puts.items i.ticks in
    subst (λ (s : Side). Strikes r s l c.args.self.now new) (sym c.in-One.is) (subst (λ (w : WorldState). Strikes r One l w new) c.self.view_is
    (strikes-one l i.one i.two i.from_one c.strike_at.new.links i.from_two i.puts.items i.ticks e.other r e.does (c.self.invariant.0 l)))

pub invariant_of-self-in-Two : goal.invariant_of-self-in-Two
invariant_of-self-in-Two g c =
    let i = c.self.inside in
    let is = c.self.invariant in
    let e = c.strike_at-in-Two.ensures in
    (is.0, struck_all c.args.lane c.strike_at-in-Two.result i.two.down i.from_two c.strike_at-in-Two.new.links i.one.up e.does e.other is.1, is.2, is.3, is.4, is.5)

pub returns-in-Two : goal.returns-in-Two
returns-in-Two g c =
    let i = c.self.inside in
    let e = c.strike_at-in-Two.ensures in
    let r = c.strike_at-in-Two.result in
    let l : Lane = c.args.lane in
    let new : WorldState = world_of i.one i.two i.from_one c.strike_at-in-Two.new.links i.puts.items i.ticks in
    subst (λ (s : Side). Strikes r s l c.args.self.now new) (sym c.in-Two.is) (subst (λ (w : WorldState). Strikes r Two l w new) c.self.view_is
    (strikes-two l i.one i.two i.from_two c.strike_at-in-Two.new.links i.from_one i.puts.items i.ticks e.other r e.does (c.self.invariant.1 l)))
