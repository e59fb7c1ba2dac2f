-- Proof-only: which timers of a table are armed: those that its records wait for.
use Rattle.std.specs.Prelude.{◌≡◌, Bool, true, false, is_some, Option, Some, None}
use Rattle.std.specs.FinMap as map
use Rattle.cfdp_header.specs.declared.value.TransactionId.{TransactionId}
use Rattle.cfdp_timers.specs.declared.kind.Kind.{Kind}
use Rattle.cfdp_sender.specs.Steps.{sender_waits}
use Rattle.cfdp_receiver.specs.Steps.{waits}
use Rattle.cfdp_entity.specs.Seen.{Seen, Sends, Receives}
use Rattle.cfdp_entity.specs.Table.{TableState, record_of}

abbrev pub waits_seen : Kind → Seen → Bool
waits_seen k (Sends x) = sender_waits k x
waits_seen k (Receives r m) = waits k r

-- `true` if a record, if there is one, waits for this timer
abbrev pub waits_for : Kind → Option Seen → Bool
waits_for k (Some s) = waits_seen k s
waits_for k None = false

abbrev pub is_armed : TransactionId → Kind → TableState → Bool
is_armed id k st = is_some (map.get st.armed (id, k))

-- A timer that is armed is waited for, and if one is waited for, it must be armed.
pub record AreTimed (st : TableState) : Type 0 where
  pub waited : (id : TransactionId) (k : Kind) → is_armed id k st ≡ true
      → waits_for k (record_of id st.records) ≡ true
  pub armed : (id : TransactionId) (k : Kind) → waits_for k (record_of id st.records) ≡ true
      → is_armed id k st ≡ true
