-- What an observer sees of two stations and the frames between them.
use Rattle.std.specs.Prelude.{ℕ, List}
use Rattle.cfdp_station.specs.Station.{StationState}
use Rattle.link_sim.specs.World.State.{WorldState, delivered_from, sent_from}
use Rattle.station_pair.specs.declared.side.Side.TheVariants.{One, Two}
use Rattle.link_sim.specs.Theorem.{StationSeen, WorldSeen}

-- of a station: the PDUs that it sent, and the PDUs that were delivered to it: the PDUs of the
-- packets all of whose frames are marked delivered
abbrev pub station_seen : StationState → (sent delivered : List (List ℕ)) → StationSeen
station_seen s sent delivered = record {
  entity = s.entity.state.config.entity;
  checksum_kind = s.entity.state.config.checksum_kind;
  sources = s.entity.state.table.sources;
  inbox = s.entity.state.table.files;
  told = s.entity.state.table.told;
  sent = sent;
  delivered = delivered;
}

abbrev pub seen : WorldState → WorldSeen
seen w = record {
  one = station_seen w.one (sent_from One w) (delivered_from Two w);
  two = station_seen w.two (sent_from Two w) (delivered_from One w);
  puts = w.puts;
}
