-- Timers, and the order of timers with one deadline.
use Rattle.std.specs.Prelude.{ℕ}
use Rattle.std.specs.declared.cmp.Ordering.{Ordering}
use Rattle.std.specs.Ordering.{nat_cmp, on, then_cmp}
use Rattle.cfdp_header.specs.declared.value.TransactionId.{TransactionId}
use Rattle.cfdp_header.specs.Ids.{id_cmp}
use Rattle.cfdp_timers.specs.declared.kind.Kind.{Kind}
use Rattle.cfdp_timers.specs.declared.kind.Kind.TheVariants.{EofAck, Nak, FinishedAck, Inactivity}

-- a timer is named by its transaction and its kind
abbrev pub Timer : Type 0
Timer = TransactionId × Kind

abbrev pub kind_place : Kind → ℕ
kind_place EofAck = 0
kind_place Nak = 1
kind_place FinishedAck = 2
kind_place Inactivity = 3

-- by transaction, and then by kind
abbrev pub timer_cmp : Timer → Timer → Ordering
timer_cmp = then_cmp (on (λ t. t.0) id_cmp) (on (λ t. kind_place t.1) nat_cmp)
