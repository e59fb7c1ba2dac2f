use Rattle.std.proofs.Common.{◌≡◌, ◌+◌}
use Rattle.aos_frame.specs.declared.config.Lane.{Lane}
use Rattle.cfdp_station.specs.Station.{KeepsRest}
use Rattle.link_stack.specs.Downward.{lane_down}
use Rattle.link_sim.specs.AtStation.{HasBuffers}
use Rattle.link_sim.specs.FrameLink.{lane_of_links}
use Rattle.link_sim.proofs.Ways.Leaving.{PullsSome}
use Rattle.link_sim.proofs.two_stations.pull_all.Given as goal

abbrev pub invariant-loop : goal.invariant-loop
invariant-loop g l = record {
  buffers : HasBuffers l.station.down l.links;
  lanes : (k : Lane) → PullsSome (lane_down k l.fn.station.down) (lane_down k l.station.down) (lane_of_links k l.fn.links) (lane_of_links k l.links);
  packet_count : l.station.down.packet_count ≡ l.fn.station.down.packet_count;
  rest : KeepsRest l.fn.station l.station;
}

abbrev pub decreases-loop : goal.decreases-loop
decreases-loop g l = l.links.directives.blanks + l.links.file_data.blanks
