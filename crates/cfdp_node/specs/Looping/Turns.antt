-- How a file goes from one station to another in turns, over two wires, and what is reported of it.
use Rattle.std.specs.Prelude.{◌≡◌, ◌⊎◌, ℕ, ◌==◌, ◌&&◌, ◌||◌, not, Bool, true, false, List, ◌++◌, count_by, drop, Option, Some, None, Result, Ok, Err, ⊤}
use Rattle.std.specs.FinMap.{empty}
use Rattle.std.specs.Io.KnownBytes.{Appends, Keeps}
use Rattle.std.specs.List.{flat_map}
use Rattle.cfdp_header.specs.declared.value.TransactionId.{TransactionId}
use Rattle.cfdp_header.specs.Files.{FileMap}
use Rattle.cfdp_directives.specs.declared.user.indication.Indication.{Indication}
use Rattle.cfdp_entity.specs.declared.error.PutError.{PutError}
use Rattle.cfdp_entity.specs.declared.error.PutError.TheVariants as put_errors
use Rattle.cfdp_station.specs.Station.{StationState}
use Rattle.cfdp_station.specs.declared.config.StationConfig.{StationConfig}
use Rattle.cfdp_station.specs.New.{IsFirstAt, IsNewAt}
use Rattle.station_pair.specs.declared.world_config.WorldConfig.{WorldConfig}
use Rattle.station_pair.specs.declared.refusal.Refusal.TheVariants.{Put}
use Rattle.station_pair.specs.declared.recover_error.RecoverError.TheVariants.{Settle}
use Rattle.station_pair.specs.declared.settle_error.SettleError.TheVariants as settle_errors
use Rattle.cfdp_port.specs.Asking.{Puts}
use Rattle.cfdp_port.specs.Calls.{WireCall}
use Rattle.cfdp_port.specs.Pair.{PairState, RunsInPart, RunsTurns, pair}
use Rattle.cfdp_port.specs.Port.{AtStation, PortState}
use Rattle.cfdp_report.specs.Exit.{run_exit}
use Rattle.cfdp_report.specs.Report.Lines.{answer_text, count_line, indication_line, is_own_completion}
use Rattle.cfdp_report.specs.declared.report.answer.Answer.{Answer}
use Rattle.cfdp_report.specs.declared.report.answer.Answer.TheVariants.{Refused, Ended}
use Rattle.cfdp_report.specs.declared.exit.Exit.{Exit}
use Rattle.cfdp_report.specs.declared.exit.Exit.TheVariants.{Device}
use Rattle.cfdp_report.specs.declared.exit.Fault.TheVariants.{Unwritable, NoMemoryAtStart}

-- what a station indicated to its user: no step of a turn drops any of that
abbrev pub told : StationState → List Indication
told s = drop s.entity.state.table.gone s.entity.state.table.told

-- whether a put was refused because memory ran out
abbrev pub is_no_memory : PutError → Bool
is_no_memory put_errors.NoMemory = true
is_no_memory _ = false

module _ {W : Type 0} (Steps : W → WireCall → W → Type 0) where
  -- What follows the put, and whether memory ran out in it or in the put.
  abbrev pub Follows : (most : ℕ) → Result TransactionId PutError → Bool
      → (old new : PairState W) → Type 0
  Follows most (Ok id) false old new = RunsTurns Steps id most old new
  Follows most (Ok id) true old new = RunsInPart Steps id most old new
  Follows most (Err by) short old new = (short ≡ is_no_memory by) × (new ≡ old)

-- ---- the report
-- how a refused put is reported
abbrev pub refusal_answer : PutError → Answer
refusal_answer put_errors.NoMemory = Ended (Settle settle_errors.NoMemory)
refusal_answer by = Refused (Put by)

-- the answer of the put, if it wasn't accepted
abbrev pub put_answer : Result TransactionId PutError → Option Answer
put_answer (Ok id) = None
put_answer (Err by) = Some (refusal_answer by)

-- how many puts were indicated as complete to the first station's user
abbrev pub completed : StationState → ℕ
completed one = count_by (is_own_completion 1) (told one)

-- a put that answered so, what both stations indicated to their users, and whether the put was
-- completed
abbrev pub loop_text : Option Answer → (one two : StationState) → List ℕ
loop_text answer one two = answer_text 1 answer
    ++ flat_map (indication_line 1) (told one)
    ++ flat_map (indication_line 2) (told two)
    ++ count_line (completed one) 1

-- whether the first station's outbox or the second one's inbox has failed more often than so
abbrev pub more_failures : (read written : ℕ) → (one two : StationState) → Bool
more_failures read written one two =
    not (one.entity.outbox_failures == read) || not (two.entity.inbox_failures == written)

-- whether a failure of a store that is read or written was counted
abbrev pub has_failed : (one two one_now two_now : StationState) → Bool
has_failed one two =
    more_failures one.entity.outbox_failures two.entity.inbox_failures

-- the exit, by whether memory ran out, how many puts were completed, and whether a store failed
abbrev pub loop_exit : (short : Bool) → (complete : ℕ) → (failed : Bool) → Exit
loop_exit short complete failed = run_exit short (failed && not (complete == 1)) complete 1

-- ---- the whole
-- Of a report that couldn't be written to its end nothing is said.
abbrev pub IsTold : Exit → Type 0 → Type 0
IsTold (Device Unwritable) so = ⊤
IsTold _ so = so

module _ {W : Type 0} (Steps : W → WireCall → W → Type 0) where
  -- A put was made and answered so, turns followed, and memory ran out in either or not.
  pub record LoopRuns (source destination : List ℕ) (most : ℕ) (answer : Option Answer)
      (short : Bool) (first last : PairState W) : Type 0 where
    pub put : Result TransactionId PutError
    pub one : PortState W
    pub puts : AtStation (Puts source destination put) first.one one
    pub follows : Follows Steps most put short (record first { one = one }) last
    pub answered : answer ≡ put_answer put

  -- That happened, whatever the put answered, and whether or not memory ran out.
  abbrev pub HasRun : (source destination : List ℕ) → (most : ℕ)
      → (first last : PairState W) → Type 0
  HasRun source destination most first last = (answer : Option Answer) × (short : Bool)
      × LoopRuns source destination most answer short first last

  -- From these stations and wires that happened, and what was written is the report of the
  -- stations that it left.
  pub record LoopsAll (source destination : List ℕ) (most : ℕ) (first last : PairState W)
      (exit : Exit) (old new : Option (List ℕ)) : Type 0 where
    pub answer : Option Answer
    pub short : Bool
    pub runs : LoopRuns source destination most answer short first last
    pub ends : exit ≡ loop_exit short (completed last.one.station)
        (has_failed first.one.station first.two.station last.one.station last.two.station)
    pub written : Appends old new (loop_text answer last.one.station last.two.station)

  -- That is so; and it happened also if the report can't be written.
  abbrev pub EndsBoth : (source destination : List ℕ) → (most : ℕ)
      → (first last : PairState W) → (exit : Exit) → (old new : Option (List ℕ)) → Type 0
  EndsBoth source destination most first last exit old new =
      HasRun source destination most first last
      × IsTold exit (LoopsAll source destination most first last exit old new)

-- The second station is a new one, of this setting, which published these files before. From the
-- first one as it is a file went so, or there was no memory, and nothing is written.
abbrev pub EndsFromOne : {W : Type 0} → (W → WireCall → W → Type 0) → Exit → PortState W
    → StationConfig → (files : FileMap) → (wire : W) → (source destination : List ℕ)
    → (most : ℕ) → (old new : Option (List ℕ)) → Type 0
EndsFromOne Steps exit one config files wire source destination most old new =
    ((exit ≡ Device NoMemoryAtStart) × Keeps old new)
    ⊎ ((two : PortState _) × IsFirstAt config empty files two.station × (two.wire ≡ wire)
    × ((last : PairState _) × LoopsAll Steps source destination most (pair one two) last exit
    old new))

-- A file went so, from two new stations of these configurations; the first has these files
-- to send, which stand or don't, and the second published those before; or there was no memory for
-- the stations, and nothing is written.
abbrev pub EndsLoop : {W : Type 0} → (W → WireCall → W → Type 0) → Exit → WorldConfig
    → (stands : Bool) → (sources files : FileMap) → (wires : W × W)
    → (source destination : List ℕ) → (most : ℕ) → (old new : Option (List ℕ)) → Type 0
EndsLoop Steps exit configs stands sources files wires source destination most old new =
    ((exit ≡ Device NoMemoryAtStart) × Keeps old new)
    ⊎ ((one : PortState _) × IsNewAt configs.one stands sources empty one.station
    × (one.wire ≡ wires.0)
    × EndsFromOne Steps exit one configs.two files wires.1 source destination most old new)
