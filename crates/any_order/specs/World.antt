-- Two stations over such a link, as a program keeps them, and what its calls do.
use Rattle.std.specs.Prelude.{◌≡◌, ◌⊎◌, ℕ, Bool, true, false, List, [], ◌∷◌, ◌++◌, Result, Ok, Err}
use Rattle.std.specs.Prelude.{map}
use Rattle.std.specs.declared.alloc.AllocError.{AllocError}
use Rattle.aos_frame.specs.declared.config.Lane.TheVariants.{Directives, Data}
use Rattle.link_stack.specs.Lives.{CopyOf, NoiseOf}
use Rattle.cfdp_header.specs.declared.value.TransactionId.{TransactionId}
use Rattle.cfdp_header.specs.Files.{FileMap}
use Rattle.cfdp_directives.specs.User.Completions.{completions}
use Rattle.cfdp_directives.specs.User.Put as user
use Rattle.cfdp_directives.specs.User.Put.{inbox_after}
use Rattle.cfdp_entity.specs.declared.error.PutError.{PutError}
use Rattle.cfdp_entity.specs.declared.error.RequestError.{RequestError}
use Rattle.cfdp_entity.specs.declared.request.Request.{Request}
use Rattle.cfdp_station.specs.declared.polled.Polled.{Polled}
use Rattle.station_pair.specs.declared.side.Side as declared
use Rattle.station_pair.specs.declared.side.Side.TheVariants as sides
use Rattle.station_pair.specs.declared.world_config.WorldConfig.{WorldConfig}
use Rattle.any_order.specs.declared.answers.Delivered.{Delivered}
use Rattle.any_order.specs.declared.answers.Delivered.TheVariants as delivered
use Rattle.any_order.specs.declared.answers.Restarted.{Restarted}
use Rattle.any_order.specs.declared.answers.Restarted.TheVariants as restarted
use Rattle.any_order.specs.declared.answers.Resumed.{Resumed}
use Rattle.any_order.specs.declared.answers.Resumed.TheVariants as resumed
use Rattle.any_order.specs.declared.answers.SentFrame.{SentFrame}
use Rattle.any_order.specs.Calls.{AreJoined, Call, Puts, Asks, Tells, Polls, Fills, Receives}
use Rattle.any_order.specs.Calls.{Refuses, Restarts, Event, At, Happen, IsNew, One, Two, Pair}
use Rattle.any_order.specs.Resuming.{HappenOrResume, HappensOrResumes, LifeEvent, ResumesAt}
use Rattle.any_order.specs.Restoring.{ResumesKept}
use Rattle.any_order.specs.Calls.{Setup, Side, at, other, setup_of}
use Rattle.any_order.specs.Kept.{EndKept, HasTaken, IsNewKept, IsOf, MadeFrame, gives}
use Rattle.any_order.specs.Promise.{HoldsAt, found}

-- Both stations; the accepted puts of both, in order; how both are set up; and the files that each
-- inbox had at first.
pub record WorldKept : Type 0 where
  pub one : EndKept
  pub two : EndKept
  pub puts : List user.Put
  pub config : WorldConfig
  pub first_one : FileMap
  pub first_two : FileMap

abbrev pub side_of : declared.Side → Side
side_of sides.One = One
side_of sides.Two = Two

abbrev pub kept_at : Side → WorldKept → EndKept
kept_at One w = w.one
kept_at Two w = w.two

abbrev pub with_kept : Side → EndKept → WorldKept → WorldKept
with_kept One k w = record w { one = k }
with_kept Two k w = record w { two = k }

-- the files that the station at a side can send
abbrev pub sources_at : Side → WorldKept → FileMap
sources_at s w = (kept_at s w).station.entity.state.table.sources

abbrev pub first_at : Side → WorldKept → FileMap
first_at One w = w.first_one
first_at Two w = w.first_two

abbrev pub setup : WorldConfig → Setup
setup c = record { one = c.one; two = c.two }

-- It is kept of these two stations.
pub record IsPairOf (w : WorldKept) (p : Pair) : Type 0 where
  pub of : (s : Side) → IsOf (kept_at s w) (at s p)
  pub taken : (s : Side) → HasTaken (setup_of s (setup w.config)).receives (kept_at s w) (at s p)
      (at (other s) p)
  pub puts : p.puts ≡ w.puts

abbrev pub calls_at : Side → List Call → List Event
calls_at s calls = map (At s) calls

-- Whatever was done before at both stations, if this was kept of it, then these calls were made
-- since, at one station, and that is kept now.
pub record Happened (s : Side) (calls : List Call) (old new : WorldKept) : Type 0 where
  pub same : new ≡ record old { one = new.one; two = new.two; puts = new.puts }
  pub follow : (before : Pair) → IsPairOf old before →
      (after : Pair) × Happen (setup old.config) (calls_at s calls) before after
      × IsPairOf new after

-- What is kept of a station that resumed is as `ResumesKept` says; of the other one, and of the
-- puts, it is as it was.
pub record ResumesIn (s : Side) (first number : ℕ) (old new : WorldKept) : Type 0 where
  pub same : new ≡ with_kept s (kept_at s new) old
  pub kept : ResumesKept first number (setup_of s (setup old.config)) (kept_at s old)
      (kept_at s new)

-- A station resumed, and counts its frames from this number on. Whatever was done before at both
-- stations, if this was kept of it, then the station resumed since, and that is kept now.
pub record HasResumed (s : Side) (first number : ℕ) (old new : WorldKept) : Type 0 where
  pub resumes : ResumesIn s first number old new
  pub follow : (before : Pair) → IsPairOf old before →
      (after : Pair) × HappensOrResumes (setup old.config) (ResumesAt s first) before after
      × IsPairOf new after

-- A call answered so that should make a station resume: it resumed, or nothing changed.
abbrev pub ResumesBy : Result Resumed AllocError → Side → (first number : ℕ) →
    (old new : WorldKept) → Type 0
ResumesBy (Ok resumed.Done) s first number old new = HasResumed s first number old new
ResumesBy _ s first number old new = new ≡ old

-- ---- which calls they are, by the answer
abbrev pub put_calls : (source destination : List ℕ) → Result TransactionId PutError → List Call
put_calls source destination (Ok id) = Puts source destination id ∷ []
put_calls source destination (Err error) = Refuses ∷ []

abbrev pub request_calls : TransactionId → Request → Result (Unit {0}) RequestError → List Call
request_calls id request (Ok done) = Asks request id ∷ []
request_calls id request (Err error) = Refuses ∷ []

abbrev pub tick_calls : ℕ → Result (Unit {0}) AllocError → List Call
tick_calls now (Ok done) = Tells now ∷ []
tick_calls now (Err error) = Refuses ∷ []

-- A poll, and then the frames that are whole. If there was no memory, none was polled, or not all
-- of these frames were given.
abbrev pub ArePollCalls : Result Polled AllocError → List Call → Type 0
ArePollCalls (Ok answer) calls = (made : List MadeFrame) × (calls ≡ Polls answer ∷ gives made)
ArePollCalls (Err error) calls = (calls ≡ Refuses ∷ [])
    ⊎ ((answer : Polled) × (made : List MadeFrame) × (calls ≡ Polls answer ∷ gives made))

-- The begun frame of each lane is filled, and then the frames that are whole are given.
abbrev pub AreFlushCalls : List Call → Type 0
AreFlushCalls calls = (made : List MadeFrame) × (calls ≡ Fills Directives ∷ Fills Data ∷ gives made)

abbrev pub deliver_calls : SentFrame → Delivered → List Call
deliver_calls f delivered.Taken = Receives (CopyOf f.life f.lane f.place) ∷ []
deliver_calls f delivered.NoSuchFrame = []
deliver_calls f delivered.TooFar = []

abbrev pub octets_calls : List ℕ → (taken : Bool) → List Call
octets_calls octets true = Receives (NoiseOf octets) ∷ []
octets_calls octets false = []

abbrev pub restart_calls : (first number : ℕ) → Result Restarted AllocError → List Call
restart_calls first number (Ok restarted.Done) = Restarts first number ∷ []
restart_calls first number (Ok restarted.NumberUsed) = []
restart_calls first number (Ok restarted.FrameUsed) = []
restart_calls first number (Err error) = []

-- ---- from the beginning
-- Nothing was done yet at either station.
pub record IsNewWorld (c : WorldConfig) (sources files : FileMap × FileMap) (w : WorldKept)
    : Type 0 where
  pub one : IsNewKept c.one sources.0 files.0 w.one
  pub two : IsNewKept c.two sources.1 files.1 w.two
  pub puts : w.puts ≡ []
  pub config : w.config ≡ c
  pub first_one : w.first_one ≡ files.0
  pub first_two : w.first_two ≡ files.1

-- Two stations were new, and calls were made at them, or they resumed; what is kept is of the two
-- that this led to.
pub record HasRun (w : WorldKept) : Type 0 where
  pub joined : AreJoined (setup w.config)
  pub counts : Side → ℕ
  pub sources : Side → FileMap
  pub start : Pair
  pub begun : (s : Side) → IsNew (setup_of s (setup w.config)) (counts s) (sources s) (first_at s w)
      (at s start)
  pub none : start.puts ≡ []
  pub events : List LifeEvent
  pub now : Pair
  pub happen : HappenOrResume (setup w.config) events start now
  pub is : IsPairOf w now

-- Calls and resumes led to what is kept; and whatever they were, the promise holds of the two
-- stations that these led to. So it holds of what is kept: each inbox is the first one, overwritten
-- by the files of the puts that its station indicated complete, over all its lives, in that order.
pub record KeepsPromise (w : WorldKept) : Type 0 where
  pub run : HasRun w
  pub holds : (any : HasRun w) (s : Side) → HoldsAt s (first_at s w) any.now
  pub inbox : (s : Side) → let e = (kept_at s w).station.entity.state in
      e.table.files ≡ inbox_after (found w.puts) (first_at s w)
      (completions e.config.entity ((kept_at s w).told_before ++ e.table.told))
