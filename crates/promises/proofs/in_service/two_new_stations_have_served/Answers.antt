use Rattle.std.proofs.Common.{◌≡◌, ℕ, [], None, refl}
use Rattle.cfdp_header.specs.Files.{FileMap}
use Rattle.cfdp_station.specs.Station.{StationState}
use Rattle.cfdp_station.specs.declared.config.StationConfig.{StationConfig}
use Rattle.any_order.specs.Calls.{Setup, Side, One, Two, setup_of}
use Rattle.shown_sources.specs.Shown.{AreAsLong}
use Rattle.promises.specs.Serving.{IsBegun, IsFirst, Served, Stations, life_from, served_at}
use Rattle.promises.proofs.in_service.two_new_stations_have_served.Goals as goal

-- nothing was done yet at a station
abbrev first : (count : ℕ) (files has : FileMap) → StationState → Served
first count files has station = record {
  kept = record { station = station; before = []; latest = life_from count; told_before = []; last_directives = None; last_data = None };
  calls = [];
  has = has;
  begun = files;
  inboxes_before = [];
}

is_first : (c : StationConfig) (count : ℕ) (sources files has : FileMap) (station : StationState) → IsBegun c count sources files station → AreAsLong sources has
    → IsFirst c count sources files (first count files has station)
is_first c count sources files has station begun long = record {
  begun = begun;
  long = long;
  kept = refl;
  calls = refl;
  is_begun = refl;
  inboxes_before = refl;
}

-- both, by their sides
abbrev both : (counts : Side → ℕ) (files has : Side → FileMap) → (Side → StationState) → Stations
both counts files has stations = record {
  one = first (counts One) (files One) (has One) (stations One);
  two = first (counts Two) (files Two) (has Two) (stations Two);
  puts = [];
}

each : (c : Setup) (counts : Side → ℕ) (sources files has : Side → FileMap) (stations : Side → StationState)
    → ((s : Side) → IsBegun (setup_of s c) (counts s) (sources s) (files s) (stations s)) → ((s : Side) → AreAsLong (sources s) (has s))
    → (s : Side) → IsFirst (setup_of s c) (counts s) (sources s) (files s) (served_at s (both counts files has stations))
each c counts sources files has stations begun long One = is_first (setup_of One c) (counts One) (sources One) (files One) (has One) (stations One) (begun One) (long One)
each c counts sources files has stations begun long Two = is_first (setup_of Two c) (counts Two) (sources Two) (files Two) (has Two) (stations Two) (begun Two) (long Two)

theirs : (counts : Side → ℕ) (files has : Side → FileMap) (stations : Side → StationState) (s : Side)
    → (served_at s (both counts files has stations)).kept.station ≡ stations s
theirs counts files has stations One = refl
theirs counts files has stations Two = refl

pub returns : goal.returns
returns g c = λ setup counts sources files has stations begun long. (
  both counts files has stations,
  record {
    counts = counts;
    sources = sources;
    first = both counts files has stations;
    begins = record { each = each setup counts sources files has stations begun long; puts = refl };
    count = 0;
    went = refl;
  },
  theirs counts files has stations,
)
