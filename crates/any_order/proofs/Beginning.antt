-- Two stations from their beginning on, as they are kept; and the promise, which holds of them.
use Rattle.std.proofs.Common.{◌≡◌, ℕ, ◌<◌, ◌^◌, None, List, [], ◌++◌, refl, sym, subst}
use Rattle.aos_frame.specs.declared.config.Lane.{Lane}
use Rattle.aos_frame.specs.declared.config.Lane.TheVariants.{Directives, Data}
use Rattle.cfdp_header.specs.Files.{FileMap}
use Rattle.cfdp_directives.specs.declared.user.indication.Indication.{Indication}
use Rattle.cfdp_directives.specs.User.Completions.{completions}
use Rattle.cfdp_directives.specs.User.Put as user
use Rattle.cfdp_directives.specs.User.Put.{inbox_after}
use Rattle.cfdp_station.specs.declared.config.StationConfig.{StationConfig}
use Rattle.cfdp_station.specs.Config.{IsStationConfig}
use Rattle.cfdp_station.specs.Station.{StationState}
use Rattle.station_pair.specs.declared.world_config.WorldConfig.{WorldConfig}
use Rattle.station_pair.specs.Stations.{IsWorldConfig}
use Rattle.any_order.specs.Resuming.{HappenOrResume, LifeEvent}
use Rattle.any_order.specs.Calls.{AreJoined, End, IsNew, One, Two, Pair, Setup, Side, at, other, setup_of}
use Rattle.any_order.specs.Kept.{EndKept, HasTaken, IsNewKept, IsOf, last_at}
use Rattle.any_order.specs.Promise.{HoldsAt, found}
use Rattle.any_order.specs.World.{HasRun, IsNewWorld, KeepsPromise, WorldKept, first_at, kept_at, setup}

first_end : EndKept → End
first_end k = record { station = k.station; first = 0; sent = []; came = []; heard = []; lives_before = []; told_before = []; heard_before = [] }

begun_so : (c : StationConfig) (sources files : FileMap) (k : EndKept) → IsNewKept c sources files k → IsNew c 0 sources files (first_end k)
unfolding first_end
begun_so c sources files k n = record {
  entity = n.entity;
  down = n.down;
  up = n.up;
  first = refl;
  sent = refl;
  came = refl;
  heard = refl;
  lives_before = refl;
  told_before = refl;
  heard_before = refl;
}

first_of : (c : StationConfig) (sources files : FileMap) (k : EndKept) → IsNewKept c sources files k → IsOf k (first_end k)
unfolding first_end
first_of c sources files k n = record { station = refl; before = sym n.before; latest = sym n.latest; told = sym n.told_before }

first_taken : (t c : StationConfig) (sources files : FileMap) (k : EndKept) (theirs : End) → IsNewKept c sources files k → HasTaken t.receives k (first_end k) theirs
unfolding first_end
first_taken t c sources files k theirs n = record { coming = tt; near = λ lane. tt; last = last }
  where
    last : (lane : Lane) → None ≡ last_at lane k
    last Directives = sym n.last_directives
    last Data = sym n.last_data

joined_so : (c : WorldConfig) → IsWorldConfig c → c.one.sends.spacecraft < 2 ^ 8 → c.two.sends.spacecraft < 2 ^ 8 → AreJoined (setup c)
joined_so c is one two = record { valid = valid; peer = peer; link = link; spacecraft = spacecraft }
  where
    valid : (s : Side) → IsStationConfig (setup_of s (setup c))
    valid One = is.one
    valid Two = is.two

    peer : (s : Side) → (setup_of s (setup c)).entity.peer ≡ (setup_of (other s) (setup c)).entity.entity
    peer One = is.peer_of_one
    peer Two = sym is.peer_of_two

    link : (s : Side) → (setup_of s (setup c)).receives ≡ (setup_of (other s) (setup c)).sends
    link One = is.receives
    link Two = sym is.sends

    spacecraft : (s : Side) → (setup_of s (setup c)).sends.spacecraft < 2 ^ 8
    spacecraft One = one
    spacecraft Two = two

pub begins : (c : WorldConfig) (sources files : FileMap × FileMap) (w : WorldKept) → IsWorldConfig c → c.one.sends.spacecraft < 2 ^ 8 → c.two.sends.spacecraft < 2 ^ 8 → IsNewWorld c sources files w →
    HasRun w
begins c sources files w is one two n = record {
  joined = subst (λ (k : WorldConfig). AreJoined (setup k)) (sym n.config) (joined_so c is one two);
  counts = λ (s : Side). 0;
  sources = first_sources;
  start = start;
  begun = begun;
  none = refl;
  events = [];
  now = start;
  happen = refl;
  is = record { of = ends; taken = taken; puts = sym n.puts };
}
  where
    start : Pair
    start = record { one = first_end w.one; two = first_end w.two; puts = [] }

    first_sources : Side → FileMap
    first_sources One = sources.0
    first_sources Two = sources.1

    begun : (s : Side) → IsNew (setup_of s (setup w.config)) 0 (first_sources s) (first_at s w) (at s start)
    begun One =
        subst (λ (k : WorldConfig). IsNew k.one 0 sources.0 w.first_one (first_end w.one)) (sym n.config)
        (subst (λ (f : FileMap). IsNew c.one 0 sources.0 f (first_end w.one)) (sym n.first_one) (begun_so c.one sources.0 files.0 w.one n.one))
    begun Two =
        subst (λ (k : WorldConfig). IsNew k.two 0 sources.1 w.first_two (first_end w.two)) (sym n.config)
        (subst (λ (f : FileMap). IsNew c.two 0 sources.1 f (first_end w.two)) (sym n.first_two) (begun_so c.two sources.1 files.1 w.two n.two))

    ends : (s : Side) → IsOf (kept_at s w) (at s start)
    ends One = first_of c.one sources.0 files.0 w.one n.one
    ends Two = first_of c.two sources.1 files.1 w.two n.two

    taken : (s : Side) → HasTaken (setup_of s (setup w.config)).receives (kept_at s w) (at s start) (at (other s) start)
    taken One = first_taken w.config.one c.one sources.0 files.0 w.one (first_end w.two) n.one
    taken Two = first_taken w.config.two c.two sources.1 files.1 w.two (first_end w.one) n.two

-- the law
abbrev pub Law : Type 0
Law = (c : Setup) (counts : Side → ℕ) (sources files : Side → FileMap) (events : List LifeEvent) (start now : Pair) → AreJoined c →
    ((s : Side) → IsNew (setup_of s c) (counts s) (sources s) (files s) (at s start)) → start.puts ≡ [] → HappenOrResume c events start now → (s : Side) → HoldsAt s (files s) now

pub keeps_promise : Law → (w : WorldKept) → HasRun w → KeepsPromise w
keeps_promise law w run = record { run = run; holds = holds; inbox = inbox }
  where
    holds : (any : HasRun w) (s : Side) → HoldsAt s (first_at s w) any.now
    holds any s = law (setup w.config) any.counts any.sources (λ (t : Side). first_at t w) any.events any.start any.now any.joined any.begun any.none any.happen s

    inbox : (s : Side) → let e = (kept_at s w).station.entity.state in e.table.files
        ≡ inbox_after (found w.puts) (first_at s w) (completions e.config.entity ((kept_at s w).told_before ++ e.table.told))
    inbox s =
        let h = (holds run s).inbox in
        let its = run.is.of s in
        subst (λ (l : List user.Put). (kept_at s w).station.entity.state.table.files
        ≡ inbox_after (found l) (first_at s w) (completions (kept_at s w).station.entity.state.config.entity ((kept_at s w).told_before ++ (kept_at s w).station.entity.state.table.told))) run.is.puts
        (subst (λ (l : List Indication). (kept_at s w).station.entity.state.table.files
        ≡ inbox_after (found run.now.puts) (first_at s w) (completions (kept_at s w).station.entity.state.config.entity (l ++ (kept_at s w).station.entity.state.table.told))) its.told
        (subst (λ (st : StationState). st.entity.state.table.files
        ≡ inbox_after (found run.now.puts) (first_at s w) (completions st.entity.state.config.entity ((at s run.now).told_before ++ st.entity.state.table.told))) its.station h))
