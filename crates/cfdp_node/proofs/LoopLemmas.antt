-- What is reported of turns, and of the put before them.
use Rattle.std.proofs.Common.{◌≡◌, ◌⊎◌, ℕ, Bool, inl, inr, is_err, OnOk, List, OnErr, Ok, Err, Option, Result, subst, sym, ⊎_elim}
use Rattle.std.specs.FinMap.{empty}
use Rattle.std.specs.Io.KnownBytes.{Keeps}
use Rattle.std.proofs.KnownBytes.{Appends-kept, Keeps-trans}
use Rattle.std.specs.declared.alloc.AllocError.{AllocError}
use Rattle.cfdp_header.specs.Files.{FileMap}
use Rattle.cfdp_header.specs.declared.value.TransactionId.{TransactionId}
use Rattle.cfdp_entity.specs.declared.error.PutError.{PutError}
use Rattle.cfdp_station.specs.declared.config.StationConfig.{StationConfig}
use Rattle.cfdp_station.specs.New.{IsFirstAt, IsNewAt}
use Rattle.station_pair.specs.declared.world_config.WorldConfig.{WorldConfig}
use Rattle.cfdp_port.specs.Asking.{Puts}
use Rattle.cfdp_port.specs.Calls.{WireCall}
use Rattle.cfdp_port.specs.Pair.{PairState, RunsInPart, RunsTurns, pair}
use Rattle.cfdp_port.specs.Port.{AtStation, PortState}
use Rattle.cfdp_node.specs.Looping.Turns.{EndsFromOne, EndsLoop, Follows, IsTold, LoopsAll, loop_text}
use Rattle.cfdp_report.specs.declared.exit.Exit.{Exit}
use Rattle.cfdp_report.specs.declared.exit.Exit.TheVariants.{Complete, Incomplete, BadScript, Device}
use Rattle.cfdp_report.specs.declared.exit.Fault.TheVariants.{Unreadable, TooLong, Unwritable, NoMemoryAtStart, NoMemory}

-- ---- what is reported
-- what follows from what is reported is reported
pub told_too : (exit : Exit) (P Q : Type 0) → (P → Q) → IsTold exit P → IsTold exit Q
told_too Complete P Q so told = so told
told_too Incomplete P Q so told = so told
told_too (BadScript bad) P Q so told = so told
told_too (Device NoMemory) P Q so told = so told
told_too (Device NoMemoryAtStart) P Q so told = so told
told_too (Device Unwritable) P Q so told = tt
told_too (Device (Unreadable kind)) P Q so told = so told
told_too (Device TooLong) P Q so told = so told

-- what is so is reported
pub is_told : (exit : Exit) (P : Type 0) → P → IsTold exit P
is_told Complete P so = so
is_told Incomplete P so = so
is_told (BadScript bad) P so = so
is_told (Device NoMemory) P so = so
is_told (Device NoMemoryAtStart) P so = so
is_told (Device Unwritable) P so = tt
is_told (Device (Unreadable kind)) P so = so
is_told (Device TooLong) P so = so

-- what follows from what holds of an answer, holds of it
pub ok-map : {A E : Type 0} (r : Result A E) (P Q : Type 0) → (P → Q) → OnOk r P → OnOk r Q
ok-map (Ok x) P Q follows holds = follows holds
ok-map (Err e) P Q follows holds = tt

module _ {W : Type 0} (Steps : W → WireCall → W → Type 0) (old mid new : Option (List ℕ)) (kept : Keeps mid new)
    (source destination : List ℕ) (most : ℕ) where
  all_kept : (first last : PairState W) (exit : Exit) → LoopsAll Steps source destination most first last exit old mid
      → LoopsAll Steps source destination most first last exit old new
  all_kept first last exit all = record {
    answer = all.answer;
    short = all.short;
    runs = all.runs;
    ends = all.ends;
    written = Appends-kept old mid new (loop_text all.answer last.one.station last.two.station) all.written kept;
  }

  one_kept : (exit : Exit) (one : PortState W) (config : StationConfig) (files : FileMap) (wire : W)
      → EndsFromOne Steps exit one config files wire source destination most old mid
      → EndsFromOne Steps exit one config files wire source destination most old new
  one_kept exit one config files wire (inl none) = inl (none.0, Keeps-trans old mid new none.1 kept)
  one_kept exit one config files wire (inr two) = inr (two.0, two.1, two.2, (two.3.0, all_kept _ _ exit two.3.1))

  loop_kept : (exit : Exit) (configs : WorldConfig) (stands : Bool) (sources files : FileMap) (wires : W × W)
      → EndsLoop Steps exit configs stands sources files wires source destination most old mid
      → EndsLoop Steps exit configs stands sources files wires source destination most old new
  loop_kept exit configs stands sources files wires (inl none) = inl (none.0, Keeps-trans old mid new none.1 kept)
  loop_kept exit configs stands sources files wires (inr one) = inr (one.0, one.1, one.2, one_kept exit one.0 _ files wires.1 one.3)

  -- it holds still once what waits in the buffer was written out
  pub flushed_loop : (exit ended : Exit) (configs : WorldConfig) (stands : Bool) (sources files : FileMap) (wires : W × W)
      → IsTold exit (EndsLoop Steps exit configs stands sources files wires source destination most old mid)
      → (ended ≡ exit) ⊎ (ended ≡ Device Unwritable)
      → IsTold ended (EndsLoop Steps ended configs stands sources files wires source destination most old new)
  flushed_loop exit ended configs stands sources files wires told from =
      let Ends : Exit → Type 0 = λ e. IsTold e (EndsLoop Steps e configs stands sources files wires source destination most old new) in
      let now : Ends exit = told_too exit _ _ (loop_kept exit configs stands sources files wires) told in
      ⊎_elim (λ e. subst Ends (sym e) now) (λ e. subst Ends (sym e) tt) from

-- ---- the put
-- names as they were asked for, and the answer as it is known
pub puts_as : {W : Type 0} (source asked_source destination asked_destination : List ℕ) → asked_source ≡ source → asked_destination ≡ destination
    → (answered answer : Result TransactionId PutError) → answered ≡ answer → (old new : PortState W)
    → AtStation (Puts asked_source asked_destination answered) old new → AtStation (Puts source destination answer) old new
puts_as source asked_source destination asked_destination same_source same_destination answered answer same old new puts =
    subst (λ s. AtStation (Puts s destination answer) old new) same_source
    (subst (λ d. AtStation (Puts asked_source d answer) old new) same_destination
    (subst (λ a. AtStation (Puts asked_source asked_destination a) old new) same puts))

-- turns that ran to their end, or not
pub follows_by : {W : Type 0} (Steps : W → WireCall → W → Type 0) (id : TransactionId) (most : ℕ) (old new : PairState W)
    (ran : Result (Unit {0}) AllocError) (short : Bool) → short ≡ is_err ran
    → OnOk ran (RunsTurns Steps id most old new) → OnErr ran (RunsInPart Steps id most old new)
    → Follows Steps most (Ok id) short old new
follows_by Steps id most old new (Ok u) short is whole part = subst (λ s. Follows Steps most (Ok id) s old new) (sym is) whole
follows_by Steps id most old new (Err e) short is whole part = subst (λ s. Follows Steps most (Ok id) s old new) (sym is) part

-- ---- from one station to both
module _ {W : Type 0} (Steps : W → WireCall → W → Type 0) (exit : Exit) (source destination : List ℕ) (most : ℕ)
    (old new : Option (List ℕ)) where
  pub from_both : (one two : PortState W) (config : StationConfig) (files : FileMap) (wire : W) (last : PairState W)
      → IsFirstAt config empty files two.station → two.wire ≡ wire
      → IsTold exit (LoopsAll Steps source destination most (pair one two) last exit old new)
      → IsTold exit (EndsFromOne Steps exit one config files wire source destination most old new)
  from_both one two config files wire last first same told =
      told_too exit (LoopsAll Steps source destination most (pair one two) last exit old new) (EndsFromOne Steps exit one config files wire source destination most old new)
      (λ all. inr (two, first, same, (last, all))) told

  pub from_first : (one : PortState W) (configs : WorldConfig) (stands : Bool) (sources files : FileMap) (wires : W × W)
      → IsNewAt configs.one stands sources empty one.station → one.wire ≡ wires.0
      → IsTold exit (EndsFromOne Steps exit one configs.two files wires.1 source destination most old new)
      → IsTold exit (EndsLoop Steps exit configs stands sources files wires source destination most old new)
  from_first one configs stands sources files wires first is told =
      told_too exit (EndsFromOne Steps exit one configs.two files wires.1 source destination most old new)
      (EndsLoop Steps exit configs stands sources files wires source destination most old new)
      (λ ends. inr (one, first, is, ends)) told
