use Rattle.std.proofs.Common.{sym, subst, Result, arith}
use Rattle.std.specs.declared.alloc.AllocError.{AllocError}
use Rattle.link_stack.specs.Upward.{UpState, lane_up}
use Rattle.link_sim.specs.declared.event.Applied.{Applied}
use Rattle.link_sim.specs.declared.event.Event.TheVariants as event
use Rattle.station_pair.specs.declared.side.Side.{Side}
use Rattle.station_pair.specs.declared.side.Side.TheVariants.{One, Two}
use Rattle.link_sim.specs.AtStation.{AreCarried, AreSetUp, KeepsAt, PollsAt}
use Rattle.link_sim.specs.Calls.{TriesEvent}
use Rattle.link_sim.specs.World.State.{WorldState}
use Rattle.link_sim.proofs.Events.InWorlds.{polls-one, polls-two, keeps-one, keeps-two, tries, world_of}
use Rattle.link_sim.proofs.two_stations.TwoStations.poll.Goals as goal

pub invariant_of-self : goal.invariant_of-self
invariant_of-self g c =
    let i = c.self.inside in
    let is = c.self.invariant in
    let e = c.poll_at.ensures in
    (λ l. e.only.carried l (lane_up l i.two.up) (is.0 l), subst (λ (u : UpState). AreCarried i.two.down i.from_two u) (sym e.only.up) is.1, λ l. omega (arith, e.only.capacity l, is.2 l), is.3, subst (λ (u : UpState). AreSetUp i.config.one.receives u) (sym e.only.up) is.4, is.5)

pub returns-in-One : goal.returns-in-One
returns-in-One g c =
    let i = c.self.inside in
    let e = c.poll_at.ensures in
    let r : Result Applied AllocError = c.poll_at.result in
    let new : WorldState = world_of c.poll_at.new.station i.two c.poll_at.new.links i.from_two i.puts.items i.ticks in
    subst (λ (s : Side). TriesEvent (event.Poll s) r c.args.self.now new) (sym c.in-One.is) (subst (λ (w : WorldState). TriesEvent (event.Poll One) r w new) c.self.view_is
    (tries (λ x. PollsAt x i.one c.poll_at.new.station i.from_one c.poll_at.new.links) (KeepsAt i.one c.poll_at.new.station i.from_one c.poll_at.new.links) (event.Poll One) r
    (world_of i.one i.two i.from_one i.from_two i.puts.items i.ticks) new
    (λ x h. polls-one i.one c.poll_at.new.station i.two i.from_one c.poll_at.new.links i.from_two i.puts.items i.ticks x h c.self.invariant.0 e.only.up e.only.marks)
    (keeps-one i.one c.poll_at.new.station i.two i.from_one c.poll_at.new.links i.from_two i.puts.items i.ticks) tt e.does e.err))

pub invariant_of-self-in-Two : goal.invariant_of-self-in-Two
invariant_of-self-in-Two g c =
    let i = c.self.inside in
    let is = c.self.invariant in
    let e = c.poll_at-in-Two.ensures in
    (subst (λ (u : UpState). AreCarried i.one.down i.from_one u) (sym e.only.up) is.0, λ l. e.only.carried l (lane_up l i.one.up) (is.1 l), is.2, λ l. omega (arith, e.only.capacity l, is.3 l), is.4, subst (λ (u : UpState). AreSetUp i.config.two.receives u) (sym e.only.up) is.5)

pub returns-in-Two : goal.returns-in-Two
returns-in-Two g c =
    let i = c.self.inside in
    let e = c.poll_at-in-Two.ensures in
    let r : Result Applied AllocError = c.poll_at-in-Two.result in
    let new : WorldState = world_of i.one c.poll_at-in-Two.new.station i.from_one c.poll_at-in-Two.new.links i.puts.items i.ticks in
    subst (λ (s : Side). TriesEvent (event.Poll s) r c.args.self.now new) (sym c.in-Two.is) (subst (λ (w : WorldState). TriesEvent (event.Poll Two) r w new) c.self.view_is
    (tries (λ x. PollsAt x i.two c.poll_at-in-Two.new.station i.from_two c.poll_at-in-Two.new.links) (KeepsAt i.two c.poll_at-in-Two.new.station i.from_two c.poll_at-in-Two.new.links) (event.Poll Two) r
    (world_of i.one i.two i.from_one i.from_two i.puts.items i.ticks) new
    (λ x h. polls-two i.two c.poll_at-in-Two.new.station i.one i.from_two c.poll_at-in-Two.new.links i.from_one i.puts.items i.ticks x h c.self.invariant.1 e.only.up e.only.marks)
    (keeps-two i.two c.poll_at-in-Two.new.station i.one i.from_two c.poll_at-in-Two.new.links i.from_one i.puts.items i.ticks) tt e.does e.err))
