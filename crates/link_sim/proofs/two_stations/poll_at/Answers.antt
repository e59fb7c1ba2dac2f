use Rattle.std.proofs.Common.{◌≡◌, ℕ, List, ap, subst, ◌∙◌, inl}
use Rattle.aos_frame.specs.Frame.{other_lane}
use Rattle.aos_frame.specs.declared.config.Lane.{Lane}
use Rattle.link_stack.specs.Downward.{lane_down}
use Rattle.link_stack.specs.Upward.{LinkReceiverState}
use Rattle.cfdp_entity.specs.Gives.{CountsOutbox}
use Rattle.cfdp_station.specs.Link.{next_lane}
use Rattle.cfdp_station.specs.Station.{StationState}
use Rattle.cfdp_station.specs.declared.polled.Polled.{Polled}
use Rattle.cfdp_station.specs.declared.polled.Polled.TheVariants.{Moved}
use Rattle.cfdp_station.specs.Polling.{next_pdu, Polls, stored_by_poll}
use Rattle.link_sim.specs.FrameLink.{FrameLinksState, lane_of_links}
use Rattle.link_sim.specs.AtStation.{CarriesOn}
use Rattle.link_sim.specs.OneWay.{IsCarried}
use Rattle.link_sim.proofs.Events.AtStations.{carried_same, moved_all, stays_all}
use Rattle.link_sim.proofs.Lanes.Each.{each-lane, either-lane}
use Rattle.link_sim.proofs.two_stations.poll_at.Goals as goal

pub returns-in-Moved : goal.returns-in-Moved
returns-in-Moved g c =
    let old : StationState = c.args.station.now in
    let mid : StationState = c.poll.new.station in
    let new : StationState = c.pull_all.new.station in
    let links : FrameLinksState = c.args.links.now in
    let room : FrameLinksState = c.make_room.new.links in
    let links_now : FrameLinksState = c.pull_all.new.links in
    let kept = c.in_ok-make_room.ensures.kept in
    let e = c.in_ok-poll.ensures in
    let p = c.pull_all.ensures in
    let l : Lane = next_lane old.entity.state in
    let o : Lane = other_lane l in
    let pdu : List ℕ = next_pdu old.entity.state in
    let polled : Polls Moved old mid = subst (λ (a : Polled). Polls a old mid) c.in-Moved.is e.polled in
    let moved = polled.0 in
    let stays = stays_all (lane_down o old.down) (lane_down o mid.down) (lane_down o new.down) (lane_of_links o links) (lane_of_links o room) (lane_of_links o links_now) moved.other
    (c.requires.ready o).none_waits (kept o) (p.lanes o) in
    let here : CarriesOn (lane_down l old.down) (lane_down l new.down) (lane_of_links l links) (lane_of_links l links_now) =
    λ (up : LinkReceiverState) (is : IsCarried (lane_down l old.down) (lane_of_links l links) up).
    (moved_all (lane_down l old.down) (lane_down l mid.down) (lane_down l new.down) (lane_of_links l links) (lane_of_links l room) (lane_of_links l links_now) up
    pdu old.down.packet_count is (kept l) moved.sent (p.lanes l)).0 in
    let there : CarriesOn (lane_down o old.down) (lane_down o new.down) (lane_of_links o links) (lane_of_links o links_now) =
    λ (up : LinkReceiverState) (is : IsCarried (lane_down o old.down) (lane_of_links o links) up).
    carried_same (lane_down o old.down) (lane_down o new.down) (lane_of_links o links) (lane_of_links o links_now) up stays.0 stays.1 is in
    let fixed = c.poll.ensures.fixed in
    record {
      does = inl (record {
        served = (let same : new.entity.state ≡ mid.entity.state = (ap (λ x. x.state) p.rest.0) in same ∙ moved.served);
        spells = e.spells c.in-Moved.is;
        failures = (
          ap (λ x. x.outbox_failures) p.rest.0 ∙ subst (λ (a : Polled). CountsOutbox (stored_by_poll a) old.entity.outbox_failures mid.entity.outbox_failures) c.in-Moved.is e.counts,
          ap (λ x. x.inbox_failures) p.rest.0 ∙ e.inbox,
        );
        sends = λ (up : LinkReceiverState) (is : IsCarried (lane_down l old.down) (lane_of_links l links) up).
            (moved_all (lane_down l old.down) (lane_down l mid.down) (lane_down l new.down) (lane_of_links l links) (lane_of_links l room) (lane_of_links l links_now) up pdu
            old.down.packet_count is (kept l) moved.sent (p.lanes l)).1;
        packet_count = p.packet_count ∙ moved.packet_count;
        other = record { down = stays.0; link = stays.1 };
        none_whole = λ m. (p.lanes m).none_whole;
        unflushed = (p.lanes l).fixed.2 ∙ moved.sent.unflushed;
      });
      err = tt;
      only = record {
        carried = either-lane (λ (m : Lane). CarriesOn (lane_down m old.down) (lane_down m new.down) (lane_of_links m links) (lane_of_links m links_now)) l here there;
        capacity = λ m. (p.lanes m).fixed.1 ∙ each-lane (λ (n : Lane). (lane_down n mid.down).capacity ≡ (lane_down n old.down).capacity) fixed.1 fixed.3 m;
        marks = λ m. ((p.lanes m).marks.0 ∙ (kept m).1, (p.lanes m).marks.1 ∙ (kept m).2, (p.lanes m).marks.2 ∙ (kept m).3);
        up = p.rest.1 ∙ polled.1;
      };
    }
