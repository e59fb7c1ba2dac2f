-- Proof-only: how the armed timers are kept. Each transaction that has room has four deadlines, by
-- kind.
use Rattle.std.specs.Prelude.{◌≡◌, ℕ, ◌*◌, ◌/◌, ◌<◌, ◌≤◌, Option, None, Some, List, [], ◌∷◌, ◌++◌, length, filter, map, get_or, slice_set, take, drop, nat_le, min}
use Rattle.std.specs.Map.{keys_of, values_of}
use Rattle.std.specs.FinMap.{from_entries}
use Rattle.std.specs.FinSet.{FinSet, from_list}
use Rattle.cfdp_header.specs.declared.value.TransactionId.{TransactionId}
use Rattle.cfdp_timers.specs.declared.kind.Kind.{Kind}
use Rattle.cfdp_timers.specs.declared.kind.Kind.TheVariants.{EofAck, Nak, FinishedAck, Inactivity}
use Rattle.cfdp_timers.specs.declared.deadlines.Deadlines.{Deadlines}
use Rattle.cfdp_timers.specs.declared.alarm.Alarm.{Alarm}
use Rattle.cfdp_timers.specs.Order.{Timer}
use Rattle.cfdp_header.specs.Ids.{id_cmp}
use Rattle.cfdp_timers.specs.Armed.{TimersState, Armed}

abbrev pub deadline_at : Deadlines → Kind → Option ℕ
deadline_at d EofAck = d.eof_ack
deadline_at d Nak = d.nak
deadline_at d FinishedAck = d.finished_ack
deadline_at d Inactivity = d.inactivity

abbrev pub with_deadline : Deadlines → Kind → Option ℕ → Deadlines
with_deadline d EofAck at = record d { eof_ack = at }
with_deadline d Nak at = record d { nak = at }
with_deadline d FinishedAck at = record d { finished_ack = at }
with_deadline d Inactivity at = record d { inactivity = at }

-- no timer is armed
abbrev pub no_deadlines : Deadlines
no_deadlines = record { eof_ack = None; nak = None; finished_ack = None; inactivity = None }

-- the deadlines of the transaction at an index
abbrev pub deadlines_in : List (TransactionId × Deadlines) → ℕ → Deadlines
deadlines_in es place = get_or (values_of es) place no_deadlines

-- a timer with its deadline, if it is armed
abbrev pub alarm_if : TransactionId → Kind → Option ℕ → List (Timer × ℕ)
alarm_if id kind None = []
alarm_if id kind (Some at) = ((id, kind), at) ∷ []

-- the armed timers of one transaction
unfoldable pub alarms_of : TransactionId → Deadlines → List (Timer × ℕ)
alarms_of id d =
    alarm_if id EofAck d.eof_ack ++ (alarm_if id Nak d.nak
    ++ (alarm_if id FinishedAck d.finished_ack ++ alarm_if id Inactivity d.inactivity))

-- and the armed timers of all
unfoldable pub alarms : List (TransactionId × Deadlines) → List (Timer × ℕ)
alarms [] = []
alarms (e ∷ es) = alarms_of e.0 e.1 ++ alarms es

-- the timers that are due at a time
abbrev pub due : ℕ → List (Timer × ℕ) → List (Timer × ℕ)
due at = filter (λ e. nat_le e.1 at)

abbrev pub timer_of : Alarm → Timer
timer_of a = (a.id, a.kind)

abbrev pub entry_of : Alarm → Timer × ℕ
entry_of a = ((a.id, a.kind), a.deadline)

-- the earlier of two deadlines, if both are there
abbrev pub earlier : Option ℕ → Option ℕ → Option ℕ
earlier None b = b
earlier (Some x) None = Some x
earlier (Some x) (Some y) = Some (min x y)

unfoldable pub earliest : List (Timer × ℕ) → Option ℕ
earliest [] = None
earliest (e ∷ es) = earlier (Some e.1) (earliest es)

-- the earliest of several deadlines
unfoldable pub earliest_of : List (Option ℕ) → Option ℕ
earliest_of [] = None
earliest_of (o ∷ os) = earlier o (earliest_of os)

-- the earliest of each block of so many deadlines
unfoldable pub AreFirsts : ℕ → (each firsts : List (Option ℕ)) → Type 0
AreFirsts n each [] = each ≡ []
AreFirsts n each (first ∷ firsts) =
    (first ≡ earliest_of (take n each)) × AreFirsts n (drop n each) firsts

-- the earliest deadline of a transaction
abbrev pub next_of : Deadlines → Option ℕ
next_of d = earlier d.eof_ack (earlier d.nak (earlier d.finished_ack d.inactivity))

-- no deadline of a block of 64 transactions is before its bound
pub record IsBound (es : List (TransactionId × Deadlines)) (block bound : ℕ) : Type 0 where
  pub none_before : (place : ℕ) (kind : Kind) (at : ℕ) → place / 64 ≡ block
      → deadline_at (deadlines_in es place) kind ≡ Some at → bound ≤ at

-- each block has a bound
pub record AreBounds (es : List (TransactionId × Deadlines)) (bounds : List ℕ) : Type 0 where
  pub cover : length es ≤ 64 * length bounds
  pub each : (block : ℕ) → block < length bounds → IsBound es block (get_or bounds block 0)

-- the bounds once a timer of a block has this deadline, if any
abbrev pub lowered : List ℕ → ℕ → Option ℕ → List ℕ
lowered bounds block None = bounds
lowered bounds block (Some at) = slice_set bounds block (min (get_or bounds block 0) at)

-- the earliest deadline of a transaction except Inactivity's, and the same of each
abbrev pub other_of : Deadlines → Option ℕ
other_of d = earlier d.eof_ack (earlier d.nak d.finished_ack)

unfoldable pub others_of : List (TransactionId × Deadlines) → List (Option ℕ)
others_of es = map (λ e. other_of e.1) es

-- the transactions that have room, and the armed timers
unfoldable pub roomy_of : List (TransactionId × Deadlines) → FinSet id_cmp
roomy_of es = from_list (keys_of es)

unfoldable pub armed_of : List (TransactionId × Deadlines) → Armed
armed_of es = from_entries (alarms es)

abbrev pub state_of : ℕ → List (TransactionId × Deadlines) → TimersState
state_of time es = record { time = time; roomy = roomy_of es; armed = armed_of es }
