-- What each command of a script does over a link that keeps no order, and what it answers.
use Rattle.std.specs.Prelude.{◌≡◌, ◌≢◌, ◌⊎◌, zero, suc, ◌+◌, ◌<◌, ◌≤◌, ℕ, Bool, true, false, List, [], ◌∷◌, ◌++◌, Option, None, Some, Result, Ok, Err, remove, if◌then◌else◌, nat_lt, slice_index_or}
use Rattle.std.specs.declared.alloc.AllocError.{AllocError}
use Rattle.aos_frame.specs.declared.config.Lane.{Lane}
use Rattle.aos_frame.specs.declared.config.Lane.TheVariants.{Directives, Data}
use Rattle.cfdp_entity.specs.declared.error.PutError.{PutError}
use Rattle.cfdp_entity.specs.declared.error.RequestError.{RequestError}
use Rattle.cfdp_entity.specs.declared.request.Request.{Request}
use Rattle.cfdp_entity.specs.declared.request.Request.TheVariants.{Cancel, Suspend, Resume, Prompt}
use Rattle.cfdp_header.specs.declared.value.TransactionId.{TransactionId}
use Rattle.cfdp_station.specs.declared.polled.Polled.{Polled}
use Rattle.cfdp_station.specs.declared.polled.Polled.TheVariants as polled
use Rattle.cfdp_timers.specs.ButInactivity.{IsLeastOther, OnlyInactivity}
use Rattle.link_sim.specs.declared.event.Event.{Event}
use Rattle.link_sim.specs.declared.event.Event.TheVariants as event
use Rattle.station_pair.specs.declared.refusal.Refusal.TheVariants as refusal
use Rattle.station_pair.specs.declared.recover_error.RecoverError.TheVariants as errors
use Rattle.station_pair.specs.declared.settle_error.SettleError.TheVariants as settle_errors
use Rattle.station_pair.specs.declared.side.Side.{Side}
use Rattle.station_pair.specs.declared.side.Side.TheVariants.{One, Two}
use Rattle.any_order.specs.Calls.{Call, other}
use Rattle.any_order.specs.Refusing.{AnswersFrame}
use Rattle.any_order.specs.declared.answers.Delivered.{Delivered}
use Rattle.any_order.specs.declared.answers.Delivered.TheVariants as delivered
use Rattle.any_order.specs.declared.answers.Restarted.{Restarted}
use Rattle.any_order.specs.declared.answers.Restarted.TheVariants as restarted
use Rattle.any_order.specs.declared.answers.Resumed.{Resumed}
use Rattle.any_order.specs.declared.answers.Resumed.TheVariants as resumed
use Rattle.any_order.specs.declared.answers.SentFrame.{SentFrame}
use Rattle.any_order.specs.World.{ArePollCalls, AreFlushCalls, Happened, ResumesBy, WorldKept, deliver_calls, kept_at, octets_calls, put_calls, request_calls, restart_calls, side_of, tick_calls}
use Rattle.cfdp_report.specs.declared.report.answer.Answer.TheVariants as usual
use Rattle.cfdp_script.specs.Script.Run.{damaged}
use Rattle.cfdp_script.specs.declared.script.Step.{Step}
use Rattle.cfdp_script.specs.declared.script.command.Command.{Command}
use Rattle.cfdp_script.specs.declared.script.command.Command.TheVariants as command
use Rattle.cfdp_script.specs.declared.script.command.Damage.{Damage}
use Rattle.cfdp_script.specs.declared.script.command.Disorder.{Disorder}
use Rattle.cfdp_script.specs.declared.script.command.Disorder.TheVariants as disorder
use Rattle.cfdp_script.specs.declared.script.command.Fate.{Fate}
use Rattle.cfdp_script.specs.declared.script.command.Fate.TheVariants.{Arrives, IsLost}
use Rattle.cfdp_any_order_script.specs.declared.answer.Answer.{Answer}
use Rattle.cfdp_any_order_script.specs.declared.answer.Answer.TheVariants.{Usual, NoSuchFrame, TooFar, TooLong, NumbersSpent, FramesSpent, NotRestored}
use Rattle.cfdp_any_order_script.specs.declared.answer.Answered.{Answered}
use Rattle.cfdp_any_order_script.specs.declared.play.Instead.{Instead}
use Rattle.cfdp_any_order_script.specs.declared.play.Instead.TheVariants as instead
use Rattle.cfdp_any_order_script.specs.Answers.{after_so_many}
use Rattle.cfdp_any_order_script.specs.Links.{Frames, IsBack, IsBehind, count_of, is_any, made_since, shown}
use Rattle.cfdp_any_order_script.specs.declared.links.Frames as declared
use Rattle.cfdp_any_order_script.specs.Told.{AnswersNextLife, AnswersRestart, IsFrame, kept_of, opposite}

-- The two stations, and the frames of each on the link.
pub record PlayState : Type 0 where
  pub world : WorldKept
  pub one : Frames
  pub two : Frames

abbrev pub frames_of : Side → PlayState → Frames
frames_of One p = p.one
frames_of Two p = p.two

-- What of them concerns one station: the world, and the frames of that station.
pub record PartState : Type 0 where
  pub world : WorldKept
  pub frames : Frames

abbrev pub part_of : WorldKept → declared.Frames → PartState
part_of w f = record { world = w; frames = shown f }

abbrev pub part : Side → PlayState → PartState
part s p = record { world = p.world; frames = frames_of s p }

-- This came about in the world and with the frames of a station; those of the other are as before.
pub record At (s : Side) (Does : PartState → PartState → Type 0) (old new : PlayState) : Type 0
  where
    pub does : Does (part s old) (part s new)
    pub others : frames_of (opposite s) new ≡ frames_of (opposite s) old

-- These calls were made at a station, and then the frames were these.
pub record Calls (at : Side) (calls : List Call) (behind : Frames) (old new : PartState) : Type 0
  where
    pub happened : Happened (side_of at) calls old.world new.world
    pub frames : new.frames ≡ behind

-- These calls were made, and no frame moved on the link.
pub record OnlyCalls (at : Side) (calls : List Call) (old new : PlayState) : Type 0 where
  pub happened : Happened (side_of at) calls old.world new.world
  pub one : new.one ≡ old.one
  pub two : new.two ≡ old.two

-- ---- answers
abbrev pub nothing : Answer
nothing = Usual (usual.Nothing 0)

abbrev pub no_memory : Answer
no_memory = Usual (usual.Ended (errors.Settle settle_errors.NoMemory))

abbrev pub put_answer : Result TransactionId PutError → Option Answer
put_answer (Ok id) = None
put_answer (Err error) = Some (Usual (usual.Refused (refusal.Put error)))

abbrev pub request_answer : Result (Unit {0}) RequestError → Option Answer
request_answer (Ok done) = None
request_answer (Err error) = Some (Usual (usual.Refused (refusal.Call error)))

abbrev pub tick_answer : Result (Unit {0}) AllocError → Option Answer
tick_answer (Ok done) = None
tick_answer (Err error) = Some no_memory

abbrev pub poll_answer : Result Polled AllocError → Option Answer
poll_answer (Ok polled.Moved) = None
poll_answer (Ok polled.SourceFailed) = None
poll_answer (Ok polled.Nothing) = Some nothing
poll_answer (Ok polled.Full) = Some nothing
poll_answer (Err error) = Some no_memory

-- by whether a frame was made
abbrev pub flush_answer : Result (Unit {0}) AllocError → (any : Bool) → Option Answer
flush_answer (Ok done) true = None
flush_answer (Ok done) false = Some nothing
flush_answer (Err error) any = Some no_memory

abbrev pub arrival_answer : Delivered → Option Answer
arrival_answer delivered.Taken = None
arrival_answer delivered.NoSuchFrame = Some NoSuchFrame
arrival_answer delivered.TooFar = Some TooFar

abbrev pub damage_answer : (taken : Bool) → Option Answer
damage_answer true = None
damage_answer false = Some (Usual (usual.Refused refusal.NotDamaged))

abbrev pub start_answer : Result Restarted AllocError → Option Answer
start_answer (Ok restarted.Done) = None
start_answer (Ok restarted.NumberUsed) = Some NumbersSpent
start_answer (Ok restarted.FrameUsed) = Some FramesSpent
start_answer (Err error) = Some no_memory

abbrev pub resume_answer : Result Resumed AllocError → Option Answer
resume_answer (Ok resumed.Done) = None
resume_answer (Ok resumed.NumberUsed) = Some NumbersSpent
resume_answer (Ok resumed.FrameUsed) = Some FramesSpent
resume_answer (Ok (resumed.NotRestored by)) = Some NotRestored
resume_answer (Err error) = Some no_memory

-- It wasn't done, and nothing changed.
abbrev pub IsNotDone : (why : Answer) → Option Answer → (old new : PartState) → Type 0
IsNotDone why answer old new = (answer ≡ Some why) × (new ≡ old)

-- ---- sending
-- The frames that a station made in these calls wait after the others; or there was no memory to
-- note them, and they are lost.
abbrev pub Sends : Side → List Call → (usually answer : Option Answer) → (old new : PartState)
    → Type 0
Sends s calls usually answer old new =
    ((answer ≡ usually) × Calls s calls (record {
      waiting = old.frames.waiting
          ++ made_since (kept_of s old.world) (kept_of s new.world);
      arrived = old.frames.arrived;
    }) old new)
    ⊎ ((answer ≡ Some no_memory) × Calls s calls old.frames old new)

abbrev pub PollsOnce : Side → Option Answer → (old new : PartState) → Type 0
PollsOnce s answer old new = (result : Result Polled AllocError) × (calls : List Call)
    × ArePollCalls result calls × Sends s calls (poll_answer result) answer old new

abbrev pub FlushesOnce : Side → Option Answer → (old new : PartState) → Type 0
FlushesOnce s answer old new = (result : Result (Unit {0}) AllocError) × (calls : List Call)
    × AreFlushCalls calls × Sends s calls
    (flush_answer result (is_any (made_since (kept_of s old.world) (kept_of s new.world))))
    answer old new

-- ---- what becomes of a waiting frame
-- the frames of a station without the one that waits at an index, and these that arrived
abbrev pub without : ℕ → List SentFrame → Frames → Frames
without place arrived f = record { waiting = remove f.waiting place; arrived = arrived }

-- what a station's frames are after such an answer of a delivery: the frame waits no more, and is
-- the last one that arrived; or nothing changed
abbrev pub behind_delivery : Delivered → SentFrame → ℕ → Frames → Frames
behind_delivery delivered.Taken frame place f = without place (f.arrived ++ frame ∷ []) f
behind_delivery delivered.NoSuchFrame frame place f = f
behind_delivery delivered.TooFar frame place f = f

-- When each answer of a delivery comes: a frame of a station is too far only if its number is too
-- far from the last one that the other station took, and nothing changed then.
abbrev pub IsAnswered : Side → SentFrame → Delivered → (old new : PartState) → Type 0
IsAnswered s frame by old new = AnswersFrame by frame (kept_of s old.world)
    (kept_at (other (side_of s)) old.world) (new.world ≡ old.world)

-- The waiting frame of a station that has `before` frames of its lane, or of both, before it
-- arrives at the other station. If fewer wait, the answer is `none`; if there is no memory to note
-- it, nothing happens.
abbrev pub ComesFrom : (none : Answer) → Side → Option Lane → ℕ → Option Answer →
    (old new : PartState) → Type 0
ComesFrom none s lane before answer old new =
    ((count_of lane old.frames.waiting ≤ before) × IsNotDone none answer old new)
    ⊎ (IsNotDone no_memory answer old new
    ⊎ ((place : ℕ) × (frame : SentFrame) × (by : Delivered)
    × IsBehind lane before old.frames.waiting place frame × (answer ≡ arrival_answer by)
    × IsAnswered s frame by old new
    × Calls (opposite s) (deliver_calls frame by) (behind_delivery by frame place old.frames)
    old new))

-- The oldest waiting frame of a lane, or of both, is lost.
abbrev pub Loses : Option Lane → Option Answer → (old new : PartState) → Type 0
Loses lane answer old new =
    ((count_of lane old.frames.waiting ≤ 0) × IsNotDone nothing answer old new)
    ⊎ ((place : ℕ) × (frame : SentFrame) × IsBehind lane 0 old.frames.waiting place frame
    × (answer ≡ None) × (new.world ≡ old.world)
    × (new.frames ≡ without place old.frames.arrived old.frames))

-- what a station's frames are after a damage: the frame waits no more, or nothing changed
abbrev pub behind_damage : (taken : Bool) → ℕ → Frames → Frames
behind_damage true place f = without place f.arrived f
behind_damage false place f = f

-- what comes in the place of a frame
abbrev pub made_by : Instead → List ℕ → List ℕ
made_by (instead.Damaged damage) frame = damaged damage frame
made_by (instead.Octets octets) frame = octets.now

-- Octets come in the place of the oldest waiting frame of a lane, or of both: these, made of it.
-- They are taken only if no packet may come of them.
abbrev pub ComesDamaged : (made : List ℕ → List ℕ) → Side → Option Lane → Option Answer →
    (old new : PartState) → Type 0
ComesDamaged made s lane answer old new =
    ((count_of lane old.frames.waiting ≤ 0) × IsNotDone nothing answer old new)
    ⊎ (IsNotDone no_memory answer old new
    ⊎ (IsNotDone NoSuchFrame answer old new
    ⊎ ((place : ℕ) × (frame : SentFrame) × (octets : List ℕ) × (taken : Bool)
    × IsBehind lane 0 old.frames.waiting place frame
    × IsFrame frame octets (kept_of s old.world) × (answer ≡ damage_answer taken)
    × Calls (opposite s) (octets_calls (made octets) taken) (behind_damage taken place old.frames)
    old new)))

-- ---- a frame that arrived
-- The frame that arrived `back` frames ago, of a lane or of both, arrives again: 1 is the last one,
-- and none arrived 0 ago.
abbrev pub ComesAgain : Side → Option Lane → ℕ → Option Answer → (old new : PartState) → Type 0
ComesAgain s lane back answer old new =
    (((count_of lane old.frames.arrived < back) ⊎ (back ≡ 0))
    × IsNotDone NoSuchFrame answer old new)
    ⊎ ((frame : SentFrame) × (by : Delivered) × IsBack lane back old.frames.arrived frame
    × (answer ≡ arrival_answer by) × IsAnswered s frame by old new
    × Calls (opposite s) (deliver_calls frame by) old.frames old new)

-- ---- a station that restarts
-- Its frames on the link stay as they are. It has no number for a frame only if that would have
-- more than 32 bits.
abbrev pub StartsAnew : Side → Option Answer → (old new : PlayState) → Type 0
StartsAnew s answer old new = (result : Result Restarted AllocError) × (first : ℕ) × (number : ℕ)
    × (answer ≡ start_answer result)
    × OnlyCalls s (restart_calls first number result) old new
    × AnswersRestart s first number result old.world new.world

-- ---- a station that resumes
-- Its frames on the link stay as they are.
abbrev pub GoesOn : Side → Option Answer → (old new : PlayState) → Type 0
GoesOn s answer old new = (result : Result Resumed AllocError) × (first : ℕ) × (number : ℕ)
    × (answer ≡ resume_answer result)
    × ResumesBy result (side_of s) first number old.world new.world
    × AnswersNextLife s first number result old.world new.world
    × (new.one ≡ old.one) × (new.two ≡ old.two)

-- ---- events
abbrev pub Asks : Side → TransactionId → Request → Option Answer → (old new : PlayState) → Type 0
Asks s id request answer old new = (result : Result (Unit {0}) RequestError)
    × (answer ≡ request_answer result) × OnlyCalls s (request_calls id request result) old new

abbrev pub HappensOnce : Event → Option Answer → (old new : PlayState) → Type 0
HappensOnce (event.Put s source destination) answer old new =
    (result : Result TransactionId PutError) × (answer ≡ put_answer result)
    × OnlyCalls s (put_calls source destination result) old new
HappensOnce (event.Cancel s id) answer old new = Asks s id Cancel answer old new
HappensOnce (event.Suspend s id) answer old new = Asks s id Suspend answer old new
HappensOnce (event.Resume s id) answer old new = Asks s id Resume answer old new
HappensOnce (event.Prompt s id keep_alive) answer old new =
    Asks s id (Prompt keep_alive) answer old new
HappensOnce (event.Poll s) answer old new = At s (PollsOnce s answer) old new
HappensOnce (event.Flush s) answer old new = At s (FlushesOnce s answer) old new
HappensOnce (event.Tick s now) answer old new = (result : Result (Unit {0}) AllocError)
    × (answer ≡ tick_answer result) × OnlyCalls s (tick_calls now result) old new
HappensOnce (event.Deliver s lane) answer old new =
    At s (ComesFrom nothing s (Some lane) 0 answer) old new
HappensOnce (event.Strike s lane) answer old new = At s (Loses (Some lane) answer) old new
HappensOnce (event.Damage s lane octets) answer old new =
    At s (ComesDamaged (λ _. octets) s (Some lane) answer) old new

-- ---- commands that repeat
-- The same done a number of times, one after another.
abbrev pub Times : (PlayState → PlayState → Type 0) → ℕ → (old new : PlayState) → Type 0
Times Step zero old new = new ≡ old
Times Step (suc count) old new = (mid : PlayState) × Times Step count old mid × Step mid new

-- It was done `count` times; or less often, and then it had another answer. The command has that
-- answer, which says, if there was nothing more to do, how often it was done.
abbrev pub Often : (Option Answer → PlayState → PlayState → Type 0) → ℕ → Option Answer →
    (old new : PlayState) → Type 0
Often Step count None old new = Times (Step None) count old new
Often Step count (Some answer) old new = (before : ℕ) × (before < count)
    × (last : PlayState) × Times (Step None) before old last
    × (why : Answer) × (answer ≡ after_so_many before why) × Step (Some why) last new

-- what happens to the oldest waiting frame of both lanes
abbrev pub BefallsFirst : Fate → Side → Option Answer → (old new : PlayState) → Type 0
BefallsFirst Arrives s answer old new = At s (ComesFrom nothing s None 0 answer) old new
BefallsFirst IsLost s answer old new = At s (Loses None answer) old new

-- ---- commands that go on until nothing is left to do
-- how many events they have at most
abbrev pub most_events : ℕ
most_events = 1000000

-- It is an answer other than that there was nothing to do.
abbrev pub IsOther : Answer → Type 0
IsOther why = why ≢ nothing

-- There were as many events as there may be, and no more are tried.
abbrev pub IsTooLong : Answer → ℕ → (last new : PlayState) → Type 0
IsTooLong why count last new = (why ≡ TooLong) × (count ≡ most_events) × (new ≡ last)

-- the events of a settling, by turns
abbrev pub turn_event : ℕ → Event
turn_event turn = slice_index_or (event.Poll One ∷ event.Flush One
    ∷ event.Poll Two ∷ event.Flush Two
    ∷ event.Deliver One Directives ∷ event.Deliver One Data
    ∷ event.Deliver Two Directives ∷ []) turn (event.Deliver Two Data)

-- One of these had something to do, or nothing.
abbrev pub SettlesOnce : (old new : PlayState) → Type 0
SettlesOnce old new = (turn : ℕ) × (HappensOnce (turn_event turn) None old new
    ⊎ HappensOnce (turn_event turn) (Some nothing) old new)

-- the first turn comes after the eighth
abbrev pub next_turn : ℕ → ℕ
next_turn turn = if nat_lt turn 7 then turn + 1 else 0

-- the turn a number of turns after one
abbrev pub turns_on : ℕ → ℕ → ℕ
turns_on turn zero = turn
turns_on turn (suc count) = next_turn (turns_on turn count)

-- From a turn on, a number of turns had nothing to do, one after another.
abbrev pub Rests : (turn : ℕ) → ℕ → (old new : PlayState) → Type 0
Rests turn zero old new = new ≡ old
Rests turn (suc count) old new = (mid : PlayState) × Rests turn count old mid
    × HappensOnce (turn_event (turns_on turn count)) (Some nothing) mid new

-- All eight had nothing to do, one after another.
abbrev pub IsSettledBy : (old new : PlayState) → Type 0
IsSettledBy old new = (turn : ℕ) × (turn ≤ 7) × Rests turn 8 old new

-- Events of a settling happened, until all had nothing to do; or one had another answer; or there
-- were too many.
abbrev pub EndsSettling : Option Answer → ℕ → (last new : PlayState) → Type 0
EndsSettling None count last new = IsSettledBy last new
EndsSettling (Some why) count last new = IsTooLong why count last new
    ⊎ ((turn : ℕ) × IsOther why × HappensOnce (turn_event turn) (Some why) last new)

abbrev pub Settles : Option Answer → (old new : PlayState) → Type 0
Settles answer old new = (count : ℕ) × (last : PlayState) × Times SettlesOnce count old last
    × EndsSettling answer count last new

-- ---- with a flush after each poll that did something
-- The flush had this answer; there may have been nothing to flush.
abbrev pub Flushes : Side → Option Answer → (old new : PlayState) → Type 0
Flushes s None old new = HappensOnce (event.Flush s) None old new
    ⊎ HappensOnce (event.Flush s) (Some nothing) old new
Flushes s (Some why) old new = IsOther why × HappensOnce (event.Flush s) (Some why) old new

abbrev pub PollsAndFlushes : Side → (old new : PlayState) → Type 0
PollsAndFlushes s old new = (mid : PlayState) × HappensOnce (event.Poll s) None old mid
    × Flushes s None mid new

-- A poll or a flush had this answer.
abbrev pub SendingEnds : Side → Answer → (old new : PlayState) → Type 0
SendingEnds s why old new = IsOther why × (HappensOnce (event.Poll s) (Some why) old new
    ⊎ ((mid : PlayState) × HappensOnce (event.Poll s) None old mid
    × HappensOnce (event.Flush s) (Some why) mid new))

abbrev pub EndsSpreading : Side → Option Answer → ℕ → (last new : PlayState) → Type 0
EndsSpreading s None count last new = HappensOnce (event.Poll s) (Some nothing) last new
EndsSpreading s (Some why) count last new = IsTooLong why count last new
    ⊎ SendingEnds s why last new

abbrev pub Spreads : Side → Option Answer → (old new : PlayState) → Type 0
Spreads s answer old new = (count : ℕ) × (last : PlayState)
    × Times (PollsAndFlushes s) count old last × EndsSpreading s answer count last new

-- ---- with one flush after all polls
abbrev pub PollsOn : Side → (old new : PlayState) → Type 0
PollsOn s old new = HappensOnce (event.Poll s) None old new

-- until nothing is due, or a poll had another answer
abbrev pub EndsPolling : Side → Option Answer → ℕ → (last new : PlayState) → Type 0
EndsPolling s None count last new = HappensOnce (event.Poll s) (Some nothing) last new
EndsPolling s (Some why) count last new = IsTooLong why count last new
    ⊎ (IsOther why × HappensOnce (event.Poll s) (Some why) last new)

abbrev pub PollsAll : Side → Option Answer → (old new : PlayState) → Type 0
PollsAll s answer old new = (count : ℕ) × (last : PlayState) × Times (PollsOn s) count old last
    × EndsPolling s answer count last new

abbrev pub Bursts : Side → Option Answer → (old new : PlayState) → Type 0
Bursts s answer old new =
    ((why : Answer) × (answer ≡ Some why) × PollsAll s (Some why) old new)
    ⊎ ((mid : PlayState) × PollsAll s None old mid × Flushes s answer mid new)

-- ---- recovery
-- the most rounds of a recovery
abbrev pub most_rounds : ℕ
most_rounds = 24576

-- The station that is given the time next, and which: the earliest deadline of its timers, except
-- Inactivity. The second station is given it only if the first one has no such timer.
abbrev pub IsNext : Side → ℕ → PlayState → Type 0
IsNext One now p = IsLeastOther (kept_of One p.world).station.entity.state.table.armed now
IsNext Two now p = OnlyInactivity (kept_of One p.world).station.entity.state.table.armed
    × IsLeastOther (kept_of Two p.world).station.entity.state.table.armed now

-- It was given that, and all was settled.
abbrev pub RecoversOnce : (old new : PlayState) → Type 0
RecoversOnce old new = (s : Side) × (now : ℕ) × (mid : PlayState) × IsNext s now old
    × HappensOnce (event.Tick s now) None old mid × Settles None mid new

-- At neither station a timer is armed, except those of Inactivity.
abbrev pub IsRecovered : PlayState → Type 0
IsRecovered p = (s : Side) →
    OnlyInactivity (kept_of s p.world).station.entity.state.table.armed

-- A round ended with this answer: its tick had it, or its settling.
abbrev pub RoundEnds : Answer → (old new : PlayState) → Type 0
RoundEnds why old new = (s : Side) × (now : ℕ) × IsNext s now old
    × (HappensOnce (event.Tick s now) (Some why) old new
    ⊎ ((mid : PlayState) × HappensOnce (event.Tick s now) None old mid
    × Settles (Some why) mid new))

abbrev pub still_armed : Answer
still_armed = Usual (usual.Ended errors.StillArmed)

-- There were as many rounds as there may be, and no more are tried, even if a timer is left to
-- fire.
abbrev pub IsStillArmed : Answer → ℕ → (last new : PlayState) → Type 0
IsStillArmed why count last new = (why ≡ still_armed) × (count ≡ most_rounds) × (new ≡ last)
    × (s : Side) × (now : ℕ) × IsNext s now last

-- Rounds were done until no timer was left to fire; or one ended with this answer; or there were
-- too many.
abbrev pub EndsRecovering : Option Answer → ℕ → (last new : PlayState) → Type 0
EndsRecovering None count last new = (new ≡ last) × IsRecovered last
EndsRecovering (Some why) count last new = IsStillArmed why count last new
    ⊎ RoundEnds why last new

-- The first settling ended with the answer; or it was done, and then there were rounds.
abbrev pub Recovers : Option Answer → (old new : PlayState) → Type 0
Recovers answer old new =
    ((why : Answer) × (answer ≡ Some why) × Settles (Some why) old new)
    ⊎ ((first : PlayState) × (count : ℕ) × (last : PlayState)
    × Settles None old first × Times RecoversOnce count first last
    × EndsRecovering answer count last new)

-- ---- all commands
abbrev pub PerformsDisorder : Disorder → Option Answer → (old new : PlayState) → Type 0
PerformsDisorder (disorder.Overtake p) answer old new =
    At p.from (ComesFrom NoSuchFrame p.from p.lane p.number answer) old new
PerformsDisorder (disorder.Again p) answer old new =
    At p.from (ComesAgain p.from p.lane p.number answer) old new
PerformsDisorder (disorder.Restart s) answer old new = StartsAnew s answer old new
PerformsDisorder (disorder.Resume s) answer old new = GoesOn s answer old new

-- A command had this answer, none if all was done.
abbrev pub Performs : Command → Option Answer → (old new : PlayState) → Type 0
Performs (command.Once e) answer old new = HappensOnce e answer old new
Performs (command.Repeat e count) answer old new = Often (HappensOnce e) count answer old new
Performs (command.First fate s count) answer old new =
    Often (BefallsFirst fate s) count answer old new
Performs (command.Damage s lane damage) answer old new =
    At s (ComesDamaged (damaged damage) s lane answer) old new
Performs (command.Spread s) answer old new = Spreads s answer old new
Performs (command.Burst s) answer old new = Bursts s answer old new
Performs command.Settle answer old new = Settles answer old new
Performs command.Recover answer old new = Recovers answer old new
Performs (command.Disorder what) answer old new = PerformsDisorder what answer old new

-- Each command in turn, from where the one before left both stations and their frames, with its
-- line and its answer.
abbrev pub Runs : List Step → List Answered → (old new : PlayState) → Type 0
Runs [] [] old new = new ≡ old
Runs [] (done ∷ all) old new = ⊥
Runs (step ∷ steps) [] old new = ⊥
Runs (step ∷ steps) (done ∷ all) old new = (done.line ≡ step.line)
    × (mid : PlayState) × Performs step.command done.answer old mid × Runs steps all mid new
