use Rattle.std.proofs.Common.{◌≡◌, None, refl, sym, ap, subst, ◌∙◌}
use Rattle.aos_frame.specs.declared.config.Lane.{Lane}
use Rattle.link_stack.specs.Downward.{DownState, frame_lane, lane_down}
use Rattle.cfdp_station.specs.Station.{StationState}
use Rattle.link_sim.specs.FrameLink.{FrameLinksState, lane_of_links}
use Rattle.link_sim.proofs.Ways.Leaving.{PullsSome, pulled-all, pulled-enough, pulled-lanes, pulled-lens}
use Rattle.link_sim.proofs.two_stations.pull_all.Goals as goal

pub loop-preserved : goal.loop-preserved
loop-preserved g c =
    let inv = c.loop.invariant in
    let e = c.loop-test.ensures in
    let d = c.loop.station.down in
    let f = c.pull_next.new.station.down in
    let h = e.pulls refl in
    record {
      buffers = record {
        lens = pulled-lens d f c.loop.links c.pull_next.new.links h inv.buffers.lens;
        enough = pulled-enough d f c.loop.links c.pull_next.new.links h inv.buffers.enough;
      };
      lanes = pulled-lanes d f c.loop.links c.pull_next.new.links h c.args.station.now.down c.args.links.now inv.lanes;
      packet_count = h.ends.packet_count ∙ inv.packet_count;
      rest = (e.rest.0 ∙ inv.rest.0, e.rest.1 ∙ inv.rest.1);
    }

pub returns : goal.returns
returns g c =
    let old : DownState = c.args.station.now.down in
    let links : FrameLinksState = c.args.links.now in
    let new : StationState = c.pull_next.new.station in
    let links_now : FrameLinksState = c.pull_next.new.links in
    let stays = c.loop-test.ensures.kept refl in
    let none : frame_lane new.down ≡ None = ap (λ (s : StationState). frame_lane s.down) stays.1 ∙ c.loop-test.ensures.none refl in
    let so : (l : Lane) → PullsSome (lane_down l old) (lane_down l new.down) (lane_of_links l links) (lane_of_links l links_now) = λ (l : Lane).
    subst (λ (k : FrameLinksState). PullsSome (lane_down l old) (lane_down l new.down) (lane_of_links l links) (lane_of_links l k)) (sym stays.0)
    (subst (λ (s : StationState). PullsSome (lane_down l old) (lane_down l s.down) (lane_of_links l links) (lane_of_links l c.loop.links)) (sym stays.1) (c.loop.invariant.lanes l)) in
    record {
      lanes = pulled-all old new.down links links_now so none;
      packet_count = ap (λ (s : StationState). s.down.packet_count) stays.1 ∙ c.loop.invariant.packet_count;
      rest = (ap (λ (s : StationState). s.entity) stays.1 ∙ c.loop.invariant.rest.0, ap (λ (s : StationState). s.up) stays.1 ∙ c.loop.invariant.rest.1);
    }
