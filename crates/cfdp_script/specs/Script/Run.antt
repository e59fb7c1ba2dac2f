-- What each command of a script does to the two stations, and what it answers.
use Rattle.std.specs.Prelude.{◌<◌, ◌≡◌, ◌⊎◌, ℕ, nat_lt, List, length, [], ◌∷◌, ◌++◌, drop, take, if◌then◌else◌, Option, None, Some}
use Rattle.cfdp_directives.specs.declared.user.indication.Indication.{Indication}
use Rattle.aos_frame.specs.declared.config.Lane.{Lane}
use Rattle.cfdp_header.specs.Files.{FileMap}
use Rattle.link_sim.specs.Recovering.{EndsBy, IsRecovered, Recovers}
use Rattle.link_sim.specs.Settling.{GoesWell, HasCause, IsSettled}
use Rattle.link_sim.specs.Spreading.{BurstFindsNoMemory, Bursts, SpreadFindsNoMemory, Spreads, Times}
use Rattle.link_sim.specs.World.State.{WorldState, entity_at, lane_from}
use Rattle.link_sim.specs.World.Steps.{FindsNoMemory, NoneWaits, Steps, WantsMemory, oldest_of, side_in}
use Rattle.link_sim.specs.declared.event.Applied.TheVariants as did
use Rattle.link_sim.specs.declared.event.Event.{Event}
use Rattle.link_sim.specs.declared.event.Event.TheVariants as event
use Rattle.station_pair.specs.declared.recover_error.RecoverError.{RecoverError}
use Rattle.station_pair.specs.declared.recover_error.RecoverError.TheVariants.{Settle, StillArmed}
use Rattle.station_pair.specs.declared.settle_error.SettleError.TheVariants.{NoMemory}
use Rattle.station_pair.specs.declared.side.Side.{Side}
use Rattle.cfdp_report.specs.Report.Answers.{answer_after}
use Rattle.cfdp_report.specs.declared.report.answer.Answer.{Answer}
use Rattle.cfdp_report.specs.declared.report.answer.Answered.{Answered}
use Rattle.cfdp_report.specs.declared.report.answer.Answer.TheVariants.{Nothing, Refused, Ended}
use Rattle.cfdp_script.specs.declared.script.command.Command.{Command}
use Rattle.cfdp_script.specs.declared.script.command.Command.TheVariants.{Once, Repeat, First, Damage as DamageOne, Spread, Burst, Settle as SettleAll, Recover, Disorder}
use Rattle.cfdp_script.specs.declared.script.command.Damage.{Damage}
use Rattle.cfdp_script.specs.declared.script.command.Fate.{Fate}
use Rattle.cfdp_script.specs.Script.Lines.{befalls}
use Rattle.cfdp_script.specs.declared.script.Step.{Step}

-- what a station indicated to its user so far, and the files that it received
abbrev pub told : Side → WorldState → List Indication
told s w = (entity_at s w).table.told

abbrev pub received : Side → WorldState → FileMap
received s w = (entity_at s w).table.files

-- ---- one command
-- Memory ran out, and then this came about.
abbrev pub ForMemory : RecoverError → Type 0 → Type 0
ForMemory (Settle NoMemory) so = so
ForMemory _ so = ⊥

-- An event happened; or the answer says that there was nothing to do, or why it was refused, or
-- that there was no memory for it.
abbrev pub HappensOnce : Event → Option Answer → (old new : WorldState) → Type 0
HappensOnce e None old new = Steps e did.Applied old new
HappensOnce e (Some (Nothing after)) old new = (after ≡ 0) × Steps e did.Nothing old new
HappensOnce e (Some (Refused by)) old new = Steps e (did.Refused by) old new
HappensOnce e (Some (Ended error)) old new =
    ForMemory error (WantsMemory e × FindsNoMemory (side_in e) old new)

-- It happened `count` times; or less often, and then an event had another answer. The command has
-- that answer, which says, if there was nothing more to do, how often it happened.
abbrev pub HappensOften : Event → ℕ → Option Answer → (old new : WorldState) → Type 0
HappensOften e count None old new = Times (Steps e did.Applied) count old new
HappensOften e count (Some answer) old new = (before : ℕ) × (before < count)
    × (last : WorldState) × Times (Steps e did.Applied) before old last
    × (why : Answer) × (answer ≡ answer_after before why) × HappensOnce e (Some why) last new

-- ---- frames of either lane
-- A frame that a station sent waits in this lane, or none waits in either.
abbrev pub MayTake : Side → Lane → WorldState → Type 0
MayTake s lane w = (length (lane_from s lane w).marks < length (lane_from s lane w).frames)
    ⊎ ((l : Lane) → NoneWaits s l w)

-- That happened to the oldest waiting frame of a lane in which one waited, or the answer says why
-- it didn't: that there was nothing to do only if none waited in either lane.
abbrev pub HappensToFirst : Fate → Side → Option Answer → (old new : WorldState) → Type 0
HappensToFirst fate s answer old new =
    (lane : Lane) × MayTake s lane old × HappensOnce (befalls fate s lane) answer old new

-- It happened to `count` frames; or to fewer, and then one had another answer. The command has that
-- answer, which says, if no more waited, how many it happened to.
abbrev pub HappensToFirsts : Fate → Side → ℕ → Option Answer → (old new : WorldState) → Type 0
HappensToFirsts fate s count None old new = Times (HappensToFirst fate s None) count old new
HappensToFirsts fate s count (Some answer) old new = (before : ℕ) × (before < count)
    × (last : WorldState) × Times (HappensToFirst fate s None) before old last
    × (why : Answer) × (answer ≡ answer_after before why)
    × HappensToFirst fate s (Some why) last new

-- ---- damaged frames
-- a frame with one octet replaced; the frame itself, if it has no octet there
abbrev pub damaged : Damage → List ℕ → List ℕ
damaged damage frame =
    if nat_lt damage.at (length frame)
    then take damage.at frame ++ damage.octet ∷ drop 1 (drop damage.at frame) else frame

-- It is a frame of this lane: the given lane, or one in which a frame waits, if a frame waits in
-- either lane.
abbrev pub IsDamagedIn : Option Lane → Side → Lane → WorldState → Type 0
IsDamagedIn (Some said) s lane w = lane ≡ said
IsDamagedIn None s lane w = MayTake s lane w

-- The octets are the oldest frame that waits in a lane, damaged, if one waits there.
abbrev pub ComesAs : Damage → Side → Lane → List ℕ → WorldState → Type 0
ComesAs damage s lane octets w =
    NoneWaits s lane w ⊎ (octets ≡ damaged damage (oldest_of (lane_from s lane w)))

-- That came in the place of the oldest frame, or the answer says why it didn't. If there was no
-- memory for it, nothing happened.
abbrev pub HappensDamaged : Side → Option Lane → Damage → Option Answer → (old new : WorldState)
    → Type 0
HappensDamaged s said damage answer old new =
    ((lane : Lane) × (octets : List ℕ) × IsDamagedIn said s lane old
    × ComesAs damage s lane octets old × HappensOnce (event.Damage s lane octets) answer old new)
    ⊎ ((answer ≡ Some (Ended (Settle NoMemory))) × (new ≡ old))

-- ---- commands that go on until nothing is left to do
-- All was done; or an error ended it before, which is the answer.
abbrev pub IsDone : Option Answer → Type 0 → (RecoverError → Type 0) → Type 0
IsDone None done ended = done
IsDone (Some (Nothing after)) done ended = ⊥
IsDone (Some (Refused by)) done ended = ⊥
IsDone (Some (Ended error)) done ended = ended error

-- An error ended a settling.
abbrev pub SettlingEnds : RecoverError → (old new : WorldState) → Type 0
SettlingEnds (Settle error) old new = HasCause error old new
SettlingEnds StillArmed old new = ⊥

-- A command had this answer, none if all was done, and led from the old world to the new one.
abbrev pub Performs : Command → Option Answer → (old new : WorldState) → Type 0
Performs (Once e) answer old new = HappensOnce e answer old new
Performs (Repeat e count) answer old new = HappensOften e count answer old new
Performs (First fate s count) answer old new = HappensToFirsts fate s count answer old new
Performs (DamageOne s said damage) answer old new = HappensDamaged s said damage answer old new
Performs (Spread s) answer old new =
    IsDone answer (Spreads s old new) (λ error. ForMemory error (SpreadFindsNoMemory s old new))
Performs (Burst s) answer old new =
    IsDone answer (Bursts s old new) (λ error. ForMemory error (BurstFindsNoMemory s old new))
Performs SettleAll answer old new =
    IsDone answer (GoesWell old new × IsSettled new) (λ error. SettlingEnds error old new)
Performs Recover answer old new =
    IsDone answer (Recovers old new × IsRecovered new) (λ error. EndsBy error old new)
-- if frames keep their order, this is no command
Performs (Disorder what) answer old new = (answer ≡ Some (Nothing 0)) × (new ≡ old)

-- ---- all commands
-- Each command in turn, from the world that the one before left, with its line and its answer.
abbrev pub Runs : List Step → List Answered → (old new : WorldState) → Type 0
Runs [] [] old new = new ≡ old
Runs [] (done ∷ all) old new = ⊥
Runs (step ∷ steps) [] old new = ⊥
Runs (step ∷ steps) (done ∷ all) old new = (done.line ≡ step.line)
    × (mid : WorldState) × Performs step.command done.answer old mid × Runs steps all mid new

-- A put that a command asked for was accepted. Lines of scripts repeat deliveries and losses alone.
abbrev pub IsAccepted : Command → Option Answer → Type 0
IsAccepted (Once (event.Put at source destination)) answer = answer ≡ None
IsAccepted (Repeat (event.Put at source destination) count) answer = ⊥
IsAccepted _ answer = Unit {0}

-- Every put was accepted.
abbrev pub AreAccepted : List Step → List Answered → Type 0
AreAccepted [] answered = Unit {0}
AreAccepted (step ∷ steps) [] = Unit {0}
AreAccepted (step ∷ steps) (done ∷ all) =
    IsAccepted step.command done.answer × AreAccepted steps all

-- how many files a command asks a station to send: one or none
abbrev pub puts_by : Command → ℕ
puts_by (Once (event.Put at source destination)) = 1
puts_by _ = 0

unfoldable pub puts_in : Step → ℕ
puts_in step = puts_by step.command
