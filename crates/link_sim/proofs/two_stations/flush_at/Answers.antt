use Rattle.std.proofs.Common.{◌≡◌, ◌⊎◌, ◌<◌, ◌≤◌, [], length, ap, ◌∙◌, inl, inr, arith}
use Rattle.aos_frame.specs.declared.config.Lane.{Lane}
use Rattle.aos_frame.specs.declared.config.Lane.TheVariants.{Directives, Data}
use Rattle.mpdu.specs.Packing.{flush_of}
use Rattle.link_stack.specs.Downward.{DownState, lane_down, packing}
use Rattle.link_stack.specs.Upward.{LinkReceiverState}
use Rattle.cfdp_station.specs.Station.{StationState}
use Rattle.link_sim.specs.FrameLink.{FrameLinksState, lane_of_links}
use Rattle.link_sim.specs.OneWay.{IsCarried}
use Rattle.link_sim.proofs.Events.AtStations.{filled_all, flushed-sends, none_filled, same_down, stays_all}
use Rattle.link_sim.proofs.Lanes.Each.{each-lane}
use Rattle.link_sim.proofs.two_stations.flush_at.Goals as goal

pub returns-then-has_more : goal.returns-then-has_more
returns-then-has_more g c =
    let old : StationState = c.args.station.now in
    let mid : StationState = c.flush.new.self in
    let new : StationState = c.pull_all.new.station in
    let links : FrameLinksState = c.args.links.now in
    let room : FrameLinksState = c.make_room.new.links in
    let links_now : FrameLinksState = c.pull_all.new.links in
    let kept = c.in_ok-make_room.ensures.kept in
    let e = c.flush.ensures in
    let p = c.pull_all.ensures in
    let before_d : c.count_in-directives.result ≡ length (lane_of_links Directives room).frames = c.count_in-directives.ensures in
    let before_f : c.count_in-file_data.result ≡ length (lane_of_links Data room).frames = c.count_in-file_data.ensures in
    let more : (c.count_in-directives.result < length links_now.directives.frames) ⊎ (c.count_in-file_data.result < length links_now.file_data.frames) =
    c.has_more.ensures.more c.if-has_more.true in
    record {
      does = record {
        entity = p.rest.0 ∙ e.rest.0;
        lanes = λ (l : Lane). record {
          sends = λ (up : LinkReceiverState) (is : IsCarried (lane_down l old.down) (lane_of_links l links) up).
              (filled_all (lane_down l old.down) (lane_down l mid.down) (lane_down l new.down) (lane_of_links l links) (lane_of_links l room) (lane_of_links l links_now) up is (kept l)
              (e.flushed.lanes l) (p.lanes l)).1;
          most = (e.flushed.lanes l).one;
          same = λ (none : flush_of (packing (lane_down l old.down)) ≡ []).
              let stays = stays_all (lane_down l old.down) (lane_down l mid.down) (lane_down l new.down) (lane_of_links l links) (lane_of_links l room) (lane_of_links l links_now)
              ((e.flushed.lanes l).same none) (c.requires.ready l).none_waits (kept l) (p.lanes l) in
              record { down = stays.0; link = stays.1 };
          none_whole = (p.lanes l).none_whole;
        };
        packet_count = p.packet_count ∙ e.flushed.packet_count;
        more = elim more [
          | inl d ↦ (Directives, omega (arith, d, before_d, ap length (kept Directives).0))
          | inr f ↦ (Data, omega (arith, f, before_f, ap length (kept Data).0))
        ];
      };
      err = tt;
      only = flushed-sends c.args.station.now c.flush.new.self c.pull_all.new.station c.args.links.now c.make_room.new.links c.pull_all.new.links
          c.in_ok-make_room.ensures.kept c.flush.ensures.flushed c.flush.ensures.rest.1 c.pull_all.ensures;
    }

pub returns-else-has_more : goal.returns-else-has_more
returns-else-has_more g c =
    let old : StationState = c.args.station.now in
    let mid : StationState = c.flush.new.self in
    let new : StationState = c.pull_all.new.station in
    let links : FrameLinksState = c.args.links.now in
    let room : FrameLinksState = c.make_room.new.links in
    let links_now : FrameLinksState = c.pull_all.new.links in
    let kept = c.in_ok-make_room.ensures.kept in
    let e = c.flush.ensures in
    let p = c.pull_all.ensures in
    let before_d : c.count_in-directives.result ≡ length (lane_of_links Directives room).frames = c.count_in-directives.ensures in
    let before_f : c.count_in-file_data.result ≡ length (lane_of_links Data room).frames = c.count_in-file_data.ensures in
    let few : (length links_now.directives.frames ≤ c.count_in-directives.result) × (length links_now.file_data.frames ≤ c.count_in-file_data.result) =
    c.has_more.ensures.none c.if-has_more.false in
    let fewer : (l : Lane) → length (lane_of_links l links_now).frames ≤ length (lane_of_links l room).frames =
    each-lane (λ (l : Lane). length (lane_of_links l links_now).frames ≤ length (lane_of_links l room).frames)
    (omega (arith, few.0, before_d)) (omega (arith, few.1, before_f)) in
    let all = λ (l : Lane).
    none_filled (lane_down l old.down) (lane_down l mid.down) (lane_down l new.down) (lane_of_links l links) (lane_of_links l room) (lane_of_links l links_now) (kept l)
    (e.flushed.lanes l) (p.lanes l) (fewer l) in
    let down : new.down ≡ old.down = same_down old.down new.down (λ l. (all l).1) (p.packet_count ∙ e.flushed.packet_count) in
    let same : new ≡ old = ap (λ x. record { entity = x; down = new.down; up = new.up }) (p.rest.0 ∙ e.rest.0)
    ∙ ap (λ (x : DownState). record { entity = old.entity; down = x; up = new.up }) down ∙ ap (λ x. record { entity = old.entity; down = old.down; up = x }) (p.rest.1 ∙ e.rest.1) in
    record {
      does = (λ l. (all l).0, (same, λ l. (all l).2));
      err = tt;
      only = flushed-sends c.args.station.now c.flush.new.self c.pull_all.new.station c.args.links.now c.make_room.new.links c.pull_all.new.links
          c.in_ok-make_room.ensures.kept c.flush.ensures.flushed c.flush.ensures.rest.1 c.pull_all.ensures;
    }
