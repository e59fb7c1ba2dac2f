-- Which timers are armed.
use Rattle.std.specs.Prelude.{ℕ, refl, Option, None, Some}
use Rattle.std.specs.Coded.{Coded, code_by, coded×, coded_ℕ}
use Rattle.std.specs.FinMap as map
use Rattle.std.specs.FinSet as set
use Rattle.cfdp_header.specs.declared.value.TransactionId.{TransactionId}
use Rattle.cfdp_header.specs.contracts.value.TransactionId as id
use Rattle.cfdp_timers.specs.declared.kind.Kind.{Kind}
use Rattle.cfdp_timers.specs.declared.kind.Kind.TheVariants.{EofAck, Nak, FinishedAck, Inactivity}
use Rattle.cfdp_timers.specs.contracts.kind.Kind as kind
use Rattle.cfdp_timers.specs.Order.{Timer, timer_cmp}
use Rattle.cfdp_header.specs.Ids.{id_cmp}

-- the deadlines of the timers that are armed
abbrev pub Armed : Type 0
Armed = map.FinMap timer_cmp ℕ

-- what `Timers` holds: the latest time given, the transactions whose timers can be armed, and the
-- armed timers
pub record TimersState : Type 0 where
  pub time : ℕ
  pub roomy : set.FinSet id_cmp
  pub armed : Armed

-- their codes: if the model of a type holds one of them, the type lists it in its own
abbrev pub roomy_code : Coded (set.FinSet id_cmp)
roomy_code = set.code (id.the_row).coded

abbrev pub armed_code : Coded Armed
armed_code = map.code (coded× (id.the_row).coded (kind.the_row).coded) coded_ℕ

abbrev pub timers_code : Coded TimersState
timers_code =
    code_by (ℕ × (set.FinSet id_cmp × Armed)) (coded× coded_ℕ (coded× roomy_code armed_code))
    (λ s. (s.time, (s.roomy, s.armed)))
    (λ p. record { time = p.0; roomy = p.1.0; armed = p.1.1 }) (λ _. refl)

-- the deadline of a timer, if it is armed
abbrev pub deadline_of : TimersState → TransactionId → Kind → Option ℕ
deadline_of timers id kind = map.get timers.armed (id, kind)

-- with a timer armed with a deadline, or cleared
abbrev pub with_timer : Armed → Timer → Option ℕ → Armed
with_timer armed t None = map.remove armed t
with_timer armed t (Some at) = map.insert armed t at

-- without the timers of a transaction
abbrev pub cleared : Armed → TransactionId → Armed
cleared armed id =
    map.remove (map.remove (map.remove (map.remove armed (id, EofAck)) (id, Nak)) (id, FinishedAck))
    (id, Inactivity)
