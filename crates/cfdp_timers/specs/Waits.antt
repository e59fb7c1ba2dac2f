-- What a transaction waits for, and how its timers are set by it.
use Rattle.std.specs.Prelude.{ℕ, ◌+◌, ◌-◌, ◌^◌, min, Bool, true, false, Option, None, Some, if◌then◌else◌}
use Rattle.std.specs.FinMap as map
use Rattle.cfdp_header.specs.declared.value.TransactionId.{TransactionId}
use Rattle.cfdp_timers.specs.declared.kind.Kind.{Kind}
use Rattle.cfdp_timers.specs.declared.kind.Kind.TheVariants.{EofAck, Nak, FinishedAck, Inactivity}
use Rattle.cfdp_timers.specs.declared.wait.Wait.{Wait}
use Rattle.cfdp_timers.specs.declared.wait.Wait.TheVariants.{Clear, Keep, Anew}
use Rattle.cfdp_timers.specs.declared.wait.Waits.{Waits}
use Rattle.cfdp_timers.specs.Armed.{Armed, with_timer}

-- the time so many units after another, or the greatest time if that is less
abbrev pub deadline_after : ℕ → ℕ → ℕ
deadline_after now duration = min (now + duration) (2 ^ 64 - 1)

-- the deadline of a timer that had this one, if it was armed
abbrev pub deadline_by : ℕ → Wait → Option ℕ → Option ℕ
deadline_by now Clear old = None
deadline_by now (Keep duration) (Some at) = Some at
deadline_by now (Keep duration) None = Some (deadline_after now duration)
deadline_by now (Anew duration) old = Some (deadline_after now duration)

abbrev pub is_kind : Kind → Kind → Bool
is_kind EofAck EofAck = true
is_kind Nak Nak = true
is_kind FinishedAck FinishedAck = true
is_kind Inactivity Inactivity = true
is_kind _ _ = false

-- true if a timer is the one that a step arms again, if it arms one
abbrev pub is_anew : Option Kind → Kind → Bool
is_anew (Some anew) kind = is_kind anew kind
is_anew None kind = false

-- what is asked of a timer that is waited for or not, and that is armed again or not
abbrev pub wait_by : (waits anew : Bool) → ℕ → Wait
wait_by waits anew duration =
    if waits then (if anew then Anew duration else Keep duration) else Clear

abbrev pub wait_for : Waits → Kind → Wait
wait_for waits EofAck = waits.eof_ack
wait_for waits Nak = waits.nak
wait_for waits FinishedAck = waits.finished_ack
wait_for waits Inactivity = waits.inactivity

-- with one timer of a transaction set
abbrev pub with_wait : ℕ → TransactionId → Kind → Wait → Armed → Armed
with_wait now id kind wait armed =
    with_timer armed (id, kind) (deadline_by now wait (map.get armed (id, kind)))

-- with the four timers of a transaction set
unfoldable pub waited : ℕ → TransactionId → Waits → Armed → Armed
waited now id waits armed =
    with_wait now id Inactivity waits.inactivity
    (with_wait now id FinishedAck waits.finished_ack
    (with_wait now id Nak waits.nak
    (with_wait now id EofAck waits.eof_ack armed)))
