-- Two stations, either of which may restart, and a link that delivers their frames in any order and
-- any number of times, or not at all, and among them other octets from which no packet can come,
-- such as damaged frames.
use Rattle.std.specs.Prelude.{◌≡◌, ◌+◌, ◌<◌, ◌≤◌, ◌^◌, ℕ, None, List, [], ◌∷◌, ◌++◌, length}
use Rattle.aos_frame.specs.Frame.{other_lane}
use Rattle.aos_frame.specs.declared.config.Lane.{Lane}
use Rattle.link_stack.specs.Downward.{Flushes, both_counted_from, first_down, lane_down}
use Rattle.link_stack.specs.EndToEnd.{AreNear, DownCall, Put, Fill, Make, made_of}
use Rattle.link_stack.specs.Lives.{AreComingOf, ComingOf, Life, numbers_of, octets_coming}
use Rattle.link_stack.specs.Upward.{first_up}
use Rattle.cfdp_header.specs.declared.value.TransactionId.{TransactionId}
use Rattle.cfdp_header.specs.Files.{FileMap}
use Rattle.cfdp_directives.specs.declared.user.indication.Indication.{Indication}
use Rattle.cfdp_directives.specs.User.Put as user
use Rattle.cfdp_entity.specs.declared.config.EntityConfig.{EntityConfig}
use Rattle.cfdp_entity.specs.declared.request.Request.{Request}
use Rattle.cfdp_entity.specs.Config.{IsConfig}
use Rattle.cfdp_entity.specs.Entity.{EntityState, first_entity, with_table}
use Rattle.cfdp_entity.specs.Polling.{turn}
use Rattle.cfdp_entity.specs.Putting.{Accepts}
use Rattle.cfdp_entity.specs.Requests.{IsCalled}
use Rattle.cfdp_entity.specs.Sound.{SpellsTurn, next_put}
use Rattle.cfdp_entity.specs.Table.{Ticks}
use Rattle.cfdp_station.specs.Config.{IsStationConfig}
use Rattle.cfdp_station.specs.Link.{next_lane}
use Rattle.cfdp_station.specs.Polling.{Polls as IsPolled, next_pdu}
use Rattle.cfdp_station.specs.Station.{StationState, KeepsLink, KeepsRest}
use Rattle.cfdp_station.specs.Taking.{TakesFrame}
use Rattle.cfdp_station.specs.Transmitting.{GivesFrame}
use Rattle.cfdp_station.specs.declared.config.StationConfig.{StationConfig}
use Rattle.cfdp_station.specs.declared.polled.Polled.{Polled}
use Rattle.cfdp_station.specs.declared.polled.Polled.TheVariants.{Moved, Nothing, Full}
use Rattle.cfdp_station.specs.declared.polled.Polled.TheVariants.{SourceFailed}

-- A station. Of its life, which began when it started last: from which number its frames are
-- counted, what was done with its sending end, what came to it, and the PDUs that came up of that.
-- Of the lives before: the sending end of each, and what was indicated and heard in them.
pub record End : Type 0 where
  pub station : StationState
  pub first : ℕ
  pub sent : List DownCall
  pub came : List ComingOf
  pub heard : List (List ℕ)
  pub lives_before : List Life
  pub told_before : List Indication
  pub heard_before : List (List ℕ)

-- the sending ends of all its lives
abbrev pub lives : End → List Life
lives e = e.lives_before ++ record { first = e.first; calls = e.sent } ∷ []

abbrev pub entity_of : End → EntityState
entity_of e = e.station.entity.state

-- Both stations, and the accepted puts of both, in order.
pub record Pair : Type 0 where
  pub one : End
  pub two : End
  pub puts : List user.Put

pub data Side : Type 0 where
  One : Side
  Two : Side

abbrev pub other : Side → Side
other One = Two
other Two = One

abbrev pub at : Side → Pair → End
at One w = w.one
at Two w = w.two

-- ---- calls
-- A call of a station: a put that is accepted, a request that is, the time, a poll and its answer,
-- a lane's begun frame that is filled, a frame that is given, one that is received, and a call that
-- is refused or only counts a failure of a store; and a start, after which its frames and its puts
-- are numbered from these on.
pub data Call : Type 0 where
  Puts : (source destination : List ℕ) → TransactionId → Call
  Asks : Request → TransactionId → Call
  Tells : ℕ → Call
  Polls : Polled → Call
  Fills : Lane → Call
  Gives : Lane → List ℕ → Call
  Receives : ComingOf → Call
  Refuses : Call
  Restarts : (first number : ℕ) → Call

-- what a poll does with the sending end
abbrev pub sent_by : Polled → EntityState → List DownCall
sent_by Moved e = Put (next_lane e) (next_pdu e) ∷ []
sent_by Nothing e = []
sent_by Full e = []
sent_by SourceFailed e = []

-- It didn't restart: it goes on.
pub record IsOneLife (old new : End) : Type 0 where
  pub first : new.first ≡ old.first
  pub lives_before : new.lives_before ≡ old.lives_before
  pub told_before : new.told_before ≡ old.told_before
  pub heard_before : new.heard_before ≡ old.heard_before

-- It goes on, nothing was heard, the sending end did this, and these puts were accepted.
pub record Does (calls : List DownCall) (added : List user.Put) (old new : End)
    (puts puts_then : List user.Put) : Type 0 where
  pub goes_on : IsOneLife old new
  pub sent : new.sent ≡ old.sent ++ calls
  pub came : new.came ≡ old.came
  pub heard : new.heard ≡ old.heard
  pub accepted : puts_then ≡ puts ++ added

-- how an entity is set up that numbers its puts from this one on
abbrev pub numbered_from : ℕ → EntityConfig → EntityConfig
numbered_from number c = record c { first_number = number }

-- A new station was made, with the files that it can send and those of its inbox. Its frames are
-- counted from a number after those of its frames before, with at least one left out; and its puts
-- are numbered from a number on that no put of it had.
pub record StartsAnew (first number : ℕ) (c : StationConfig) (old new : End) : Type 0 where
  pub valid : IsConfig (numbered_from number c.entity)
  pub entity : entity_of new ≡ first_entity (entity_of old).table.sources
      (entity_of old).table.files (numbered_from number c.entity)
  pub unused : (entity_of old).next ≤ number
  pub down : new.station.down ≡ both_counted_from first (first_down c.sends c.capacity)
  pub up : new.station.up ≡ first_up c.receives
  pub counted : new.first ≡ first
  pub apart : (lane : Lane) → old.first + length (made_of lane old.sent) < first
  pub sent : new.sent ≡ []
  pub came : new.came ≡ []
  pub heard : new.heard ≡ []
  pub lives_before : new.lives_before ≡ lives old
  pub told_before : new.told_before ≡ old.told_before ++ (entity_of old).table.told
  pub heard_before : new.heard_before ≡ old.heard_before ++ old.heard

-- What a call does at a station that is set up so, `theirs` being the other one: by the clauses of
-- the call. A file that is sent stays as it is.
abbrev pub DoesCall : Call → (config : StationConfig) → (old theirs new : End) →
    (puts puts_then : List user.Put) → Type 0
DoesCall (Puts source destination id) c old theirs new puts puts_then =
    Accepts source destination id (entity_of old) (entity_of new)
    × KeepsLink old.station new.station
    × Does [] (next_put source destination (entity_of old) ∷ []) old new puts puts_then
DoesCall (Asks request id) c old theirs new puts puts_then =
    IsCalled request id (entity_of old) (entity_of new) × KeepsLink old.station new.station
    × Does [] [] old new puts puts_then
DoesCall (Tells now) c old theirs new puts puts_then =
    Ticks now (entity_of old).table (entity_of new).table
    × (entity_of new ≡ with_table (entity_of old) (entity_of new).table)
    × KeepsLink old.station new.station × Does [] [] old new puts puts_then
DoesCall (Polls answer) c old theirs new puts puts_then =
    IsPolled answer old.station new.station
    × (answer ≡ Moved → SpellsTurn (turn (entity_of old)) (entity_of old))
    × Does (sent_by answer (entity_of old)) [] old new puts puts_then
DoesCall (Fills lane) c old theirs new puts puts_then =
    Flushes (lane_down lane old.station.down) (lane_down lane new.station.down)
    × (lane_down (other_lane lane) new.station.down ≡ lane_down (other_lane lane) old.station.down)
    × KeepsRest old.station new.station × Does (Fill lane ∷ []) [] old new puts puts_then
DoesCall (Gives lane frame) c old theirs new puts puts_then =
    GivesFrame lane frame old.station new.station
    × Does (Make lane frame ∷ []) [] old new puts puts_then
DoesCall (Receives coming) c old theirs new puts puts_then =
    AreComingOf c.receives (lives theirs) (coming ∷ [])
    × ((lane : Lane) → AreNear None (numbers_of lane (lives theirs) (old.came ++ coming ∷ [])))
    × ((taken : TakesFrame (octets_coming (lives theirs) coming) old.station new.station)
    × (new.heard ≡ old.heard ++ taken.pdus))
    × (new.sent ≡ old.sent) × (new.came ≡ old.came ++ coming ∷ []) × IsOneLife old new
    × (puts_then ≡ puts)
DoesCall Refuses c old theirs new puts puts_then =
    (entity_of new ≡ entity_of old) × KeepsLink old.station new.station
    × Does [] [] old new puts puts_then
DoesCall (Restarts first number) c old theirs new puts puts_then =
    StartsAnew first number c old new × (puts_then ≡ puts)

-- ---- runs
-- how both stations are set up
pub record Setup : Type 0 where
  pub one : StationConfig
  pub two : StationConfig

abbrev pub setup_of : Side → Setup → StationConfig
setup_of One c = c.one
setup_of Two c = c.two

-- Each is valid, and is set up to send to the other.
pub record AreJoined (c : Setup) : Type 0 where
  pub valid : (s : Side) → IsStationConfig (setup_of s c)
  pub peer : (s : Side) → (setup_of s c).entity.peer ≡ (setup_of (other s) c).entity.entity
  pub link : (s : Side) → (setup_of s c).receives ≡ (setup_of (other s) c).sends
  pub spacecraft : (s : Side) → (setup_of s c).sends.spacecraft < 2 ^ 8

-- A station at which nothing was done yet: it counts its frames from a number, and has these files
-- to send and in its inbox.
pub record IsNew (c : StationConfig) (count : ℕ) (sources files : FileMap) (e : End)
    : Type 0 where
  pub entity : entity_of e ≡ first_entity sources files c.entity
  pub down : e.station.down ≡ both_counted_from count (first_down c.sends c.capacity)
  pub up : e.station.up ≡ first_up c.receives
  pub first : e.first ≡ count
  pub sent : e.sent ≡ []
  pub came : e.came ≡ []
  pub heard : e.heard ≡ []
  pub lives_before : e.lives_before ≡ []
  pub told_before : e.told_before ≡ []
  pub heard_before : e.heard_before ≡ []

-- a call, at this side
pub data Event : Type 0 where
  At : Side → Call → Event

abbrev pub Happens : Setup → Event → (old new : Pair) → Type 0
Happens c (At s call) old new =
    DoesCall call (setup_of s c) (at s old) (at (other s) old) (at s new) old.puts new.puts
    × (at (other s) new ≡ at (other s) old)

abbrev pub Happen : Setup → List Event → (old new : Pair) → Type 0
Happen c [] old new = new ≡ old
Happen c (event ∷ events) old new =
    (mid : Pair) × Happens c event old mid × Happen c events mid new
