-- How often a transaction tries again in an outage, and how often it may.
use Rattle.std.specs.Prelude.{◌≡◌, ◌≢◌, ◌⊎◌, ◌&&◌, ◌+◌, ◌<◌, ℕ, Bool, true, false, List, [], ◌∷◌, Option, Some, None, max}
use Rattle.cfdp_header.specs.declared.value.TransactionId.{TransactionId}
use Rattle.cfdp_directives.specs.declared.user.handler.Handler.TheVariants.{Ignore}
use Rattle.cfdp_directives.specs.declared.user.limits.Limits.{Limits}
use Rattle.cfdp_timers.specs.declared.kind.Kind.{Kind}
use Rattle.cfdp_timers.specs.declared.kind.Kind.TheVariants.{EofAck, Nak, FinishedAck, Inactivity}
use Rattle.cfdp_timers.specs.Due.{is_due}
use Rattle.cfdp_entity.specs.Seen.{Seen, Sends, Receives}
use Rattle.cfdp_entity.specs.Table.{record_of}
use Rattle.station_pair.specs.declared.side.Side.{Side}
use Rattle.station_pair.specs.declared.side.Side.TheVariants.{One, Two}
use Rattle.link_sim.specs.declared.event.Event.{Event}
use Rattle.link_sim.specs.declared.event.Event.TheVariants as event
use Rattle.link_sim.specs.Recovering.{armed_at}
use Rattle.link_sim.specs.Waiting.{policy_at, is_open, IsOpen, IsWaitingIn}
use Rattle.link_sim.specs.World.State.{WorldState, entity_at}
use Rattle.outages.specs.Outage.{Happening}

-- ---- timers that expire
-- the time at a station once it is given: a clock doesn't run back
abbrev pub time_told : Side → ℕ → WorldState → ℕ
time_told s now w = max (entity_at s w).table.now now

abbrev pub is_side : Side → Side → Bool
is_side One One = true
is_side Two Two = true
is_side _ _ = false

-- whether a timer of this kind of the transaction expires at the station by the event
abbrev pub expires_at : Side → TransactionId → Kind → WorldState → Event → Bool
expires_at s id k w (event.Tick t now) =
    is_side s t && is_due (armed_at t w) (time_told t now w) (id, k)
expires_at s id k w _ = false

abbrev pub one_if : Bool → ℕ
one_if true = 1
one_if false = 0

-- how often one does there in these events
abbrev pub expiries : TransactionId → WorldState → List Happening → Side → Kind → ℕ
expiries id w [] s k = 0
expiries id w (h ∷ hs) s k = one_if (expires_at s id k w h.event) + expiries id h.after hs s k

-- None of its timers expires at either station, except those of Inactivity.
abbrev pub NoneExpires : TransactionId → WorldState → List Happening → Type 0
NoneExpires id w hs = (s : Side) (k : Kind) → k ≢ Inactivity → expiries id w hs s k ≡ 0

-- The timer for hearing nothing at all of the transaction doesn't expire by the event, or the
-- station ignores that.
abbrev pub IsCalm : TransactionId → WorldState → Event → Type 0
IsCalm id w (event.Tick s now) = ((policy_at s w).handlers.inactivity ≡ Ignore)
    ⊎ (is_due (armed_at s w) (time_told s now w) (id, Inactivity) ≡ false)
IsCalm id w _ = Unit {0}

abbrev pub AreCalm : TransactionId → WorldState → List Happening → Type 0
AreCalm id w [] = Unit {0}
AreCalm id w (h ∷ hs) = IsCalm id w h.event × AreCalm id h.after hs

-- ---- tries that are left
-- After so many more expiries of each kind, EOF, NAKs or Finished were still sent again less often
-- than they may be.
abbrev pub HasTries : Limits → (Kind → ℕ) → Seen → Type 0
HasTries limits n (Sends x) = x.count + n EofAck < limits.eof
HasTries limits n (Receives r m) =
    (r.nak_count + n Nak < limits.nak) × (r.finished_count + n FinishedAck < limits.finished)

-- of a record that isn't closed, or of one that a PDU may open
abbrev pub HasTriesIn : Limits → (Kind → ℕ) → Option Seen → Type 0
HasTriesIn limits n (Some s) = is_open (Some s) ≡ true → HasTries limits n s
HasTriesIn limits n None = (n Nak < limits.nak) × (n FinishedAck < limits.finished)

-- so at either station, after so many expiries there
abbrev pub MayTry : TransactionId → (Side → Kind → ℕ) → WorldState → Type 0
MayTry id n w = (s : Side)
    → HasTriesIn (policy_at s w).limits (n s) (record_of id (entity_at s w).table.records)

-- ---- what is left of a transaction
-- It has a record that isn't closed, and at either station its record, if there is one, is neither
-- cancelled nor suspended, and below its limits if it is open.
pub record GoesOn (id : TransactionId) (w : WorldState) : Type 0 where
  pub still_open : IsOpen id w
  pub records_wait : (s : Side)
      → IsWaitingIn (policy_at s w).limits (record_of id (entity_at s w).table.records)
