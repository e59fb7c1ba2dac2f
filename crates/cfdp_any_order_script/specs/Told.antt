-- What two stations indicated to their users, in all their lives, and what is kept of that.
use Rattle.std.specs.Prelude.{◌≡◌, ◌⊎◌, ◌+◌, ◌≤◌, ◌^◌, ℕ, List, [], ◌++◌, Some, Result, IfOk, length, max, count_by, slice_get, slice_index_or}
use Rattle.std.specs.List.{flat_map}
use Rattle.std.specs.declared.alloc.AllocError.{AllocError}
use Rattle.cfdp_header.specs.Files.{FileMap}
use Rattle.cfdp_directives.specs.declared.user.indication.Indication.{Indication}
use Rattle.station_pair.specs.declared.side.Side.{Side}
use Rattle.station_pair.specs.declared.side.Side.TheVariants.{One, Two}
use Rattle.any_order.specs.declared.answers.Restarted.{Restarted}
use Rattle.any_order.specs.declared.answers.Resumed.{Resumed}
use Rattle.any_order.specs.declared.answers.SentFrame.{SentFrame}
use Rattle.any_order.specs.Calls as sides
use Rattle.any_order.specs.Kept.{EndKept, LifeKept, all_kept, frames_in}
use Rattle.any_order.specs.Refusing.{AnswersResume, AnswersStart}
use Rattle.any_order.specs.Onward.{BeginsAnew, GoesOn, GoesOnInNewLife}
use Rattle.any_order.specs.World.{WorldKept, kept_at, side_of, sources_at}
use Rattle.cfdp_report.specs.Report.Lines.{indication_line, is_own_completion}
use Rattle.cfdp_script.specs.Script.Outboxes.{outbox_of}
use Rattle.cfdp_script.specs.declared.script.command.FileLine.{FileLine}

-- the other station
abbrev pub opposite : Side → Side
opposite One = Two
opposite Two = One

-- its entity
abbrev pub station_of : Side → ℕ
station_of One = 1
station_of Two = 2

abbrev pub kept_of : Side → WorldKept → EndKept
kept_of s w = kept_at (side_of s) w

-- all that a station indicated to its user, in all its lives, in order
abbrev pub told_ever : Side → WorldKept → List Indication
told_ever s w = (kept_of s w).told_before ++ (kept_of s w).station.entity.state.table.told

-- the files that it published, in all its lives
abbrev pub received : Side → WorldKept → FileMap
received s w = (kept_of s w).station.entity.state.table.files

-- These are the octets of a frame that a station made.
abbrev pub IsFrame : SentFrame → List ℕ → EndKept → Type 0
IsFrame f octets k = (l : LifeKept) × (slice_get (all_kept k) f.life ≡ Some l)
    × (octets ≡ slice_index_or (frames_in f.lane l) f.place [])

-- ---- a station that begins another life
-- the number of its first frame then: one is left out after those that it made
abbrev pub next_first : EndKept → ℕ
next_first k = k.latest.first + max (length k.latest.directives) (length k.latest.file_data) + 1

-- The station is given that number; or it has more than 32 bits, and 0 is tried, which is used.
abbrev pub IsNextFirst : ℕ → EndKept → Type 0
IsNextFirst first k = (first ≡ next_first k) ⊎ ((2 ^ 32 ≤ next_first k) × (first ≡ 0))

-- when each answer of a restart comes, and which number was tried
abbrev pub AnswersRestart : Side → (first number : ℕ) → Result Restarted AllocError →
    (old new : WorldKept) → Type 0
AnswersRestart s first number result old new =
    AnswersStart first number result (kept_of s old) (new ≡ old)
    × IfOk result (λ _. IsNextFirst first (kept_of s old))

-- the same of a resume
abbrev pub AnswersNextLife : Side → (first number : ℕ) → Result Resumed AllocError →
    (old new : WorldKept) → Type 0
AnswersNextLife s first number result old new =
    AnswersResume first number result (kept_of s old) (new ≡ old)
    × IfOk result (λ _. IsNextFirst first (kept_of s old))

-- Three things are kept of the lives that a station had before: their number, the lines of all that
-- it indicated in them, and how many of its puts were complete by these. All that it indicated in
-- this life is there. (Only proofs need it.)
pub record IsNoted (station number : ℕ) (lines : List ℕ) (complete : ℕ) (k : EndKept) : Type 0 where
  pub lives : number ≡ length k.before
  pub told : lines ≡ flat_map (indication_line station) k.told_before
  pub completed : complete ≡ count_by (is_own_completion station) k.told_before
  pub none_gone : k.station.entity.state.table.gone ≡ 0

-- The files that both stations can send are those of a script. (Only proofs need it.)
abbrev pub HasSources : List FileLine → WorldKept → Type 0
HasSources files w = (s : Side) → sources_at (side_of s) w ≡ outbox_of s files

-- Whatever was called, both stations went on in their lives, and the files that they can send stay.
-- (Only proofs need it, and the next two.)
abbrev pub GoesOnward : (old new : WorldKept) → Type 0
GoesOnward old new = ((s : sides.Side) → GoesOn (kept_at s old) (kept_at s new))
    × ((s : sides.Side) → sources_at s new ≡ sources_at s old)

-- A station restarted, and the other one went on.
abbrev pub Starts : sides.Side → (old new : WorldKept) → Type 0
Starts side old new = BeginsAnew (kept_at side old) (kept_at side new)
    × GoesOn (kept_at (sides.other side) old) (kept_at (sides.other side) new)
    × ((s : sides.Side) → sources_at s new ≡ sources_at s old)

-- A station resumed, and the other one went on.
abbrev pub Resumes : sides.Side → (old new : WorldKept) → Type 0
Resumes side old new = GoesOnInNewLife (kept_at side old) (kept_at side new)
    × (GoesOn (kept_at (sides.other side) old) (kept_at (sides.other side) new)
    × ((s : sides.Side) → sources_at s new ≡ sources_at s old))
