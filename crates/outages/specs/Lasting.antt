-- How long an outage may last.
use Rattle.std.specs.Prelude.{◌≡◌, ◌+◌, ◌-◌, ◌*◌, ◌^◌, ◌<◌, ℕ, true, min, Option, Some, None}
use Rattle.std.specs.FinMap as map
use Rattle.cfdp_header.specs.declared.value.TransactionId.{TransactionId}
use Rattle.cfdp_directives.specs.declared.user.limits.Times.{Times}
use Rattle.cfdp_timers.specs.declared.kind.Kind.{Kind}
use Rattle.cfdp_timers.specs.declared.kind.Kind.TheVariants.{EofAck, Nak, FinishedAck, Inactivity}
use Rattle.cfdp_entity.specs.Seen.{Seen, Sends, Receives}
use Rattle.cfdp_entity.specs.Table.{record_of}
use Rattle.station_pair.specs.declared.side.Side.{Side}
use Rattle.link_sim.specs.Recovering.{armed_at}
use Rattle.link_sim.specs.Waiting.{policy_at, is_open}
use Rattle.link_sim.specs.World.State.{WorldState, entity_at}

-- the time at a station
abbrev pub clock_at : Side → WorldState → ℕ
clock_at s w = (entity_at s w).table.now

-- how long a timer of this kind runs
abbrev pub time_of : Times → Kind → ℕ
time_of times EofAck = times.eof
time_of times Nak = times.nak
time_of times FinishedAck = times.finished
time_of times Inactivity = times.inactivity

abbrev pub wait_at : Side → Kind → WorldState → ℕ
wait_at s k w = time_of (policy_at s w).times k

-- When a timer of the transaction may expire first: at its deadline, or if it isn't armed, a whole
-- wait from now on.
abbrev pub earlier : Option ℕ → ℕ → ℕ
earlier None later = later
earlier (Some deadline) later = min deadline later

abbrev pub earliest : TransactionId → Side → Kind → WorldState → ℕ
earliest id s k w = earlier (map.get (armed_at s w) (id, k)) (clock_at s w + wait_at s k w)

-- A machine that tried so often may try again; and one wait after this time of the clock must come
-- before the end of all waits that its other tries have, the first of which ends at the earliest
-- expiry. (A clock doesn't run past its greatest time.)
pub record IsInTime (id : TransactionId) (s : Side) (k : Kind) (count limit clock : ℕ)
    (w : WorldState) : Type 0 where
  pub left : count < limit
  pub early : clock + wait_at s k w < earliest id s k w + (limit - count) * wait_at s k w
  pub fits : clock + wait_at s k w < 2 ^ 64

abbrev pub IsInTimeFor : TransactionId → Side → (clock : ℕ) → WorldState → Option Seen → Type 0
IsInTimeFor id s clock w (Some (Sends x)) = is_open (Some (Sends x)) ≡ true
    → IsInTime id s EofAck x.count (policy_at s w).limits.eof clock w
IsInTimeFor id s clock w (Some (Receives r m)) = is_open (Some (Receives r m)) ≡ true
    → IsInTime id s Nak r.nak_count (policy_at s w).limits.nak clock w
    × IsInTime id s FinishedAck r.finished_count (policy_at s w).limits.finished clock w
IsInTimeFor id s clock w None = IsInTime id s Nak 0 (policy_at s w).limits.nak clock w
    × IsInTime id s FinishedAck 0 (policy_at s w).limits.finished clock w

-- When the outage ends, it must be in time for each record at either station.
abbrev pub IsShort : TransactionId → (old new : WorldState) → Type 0
IsShort id old new = (s : Side)
    → IsInTimeFor id s (clock_at s new) old (record_of id (entity_at s old).table.records)
