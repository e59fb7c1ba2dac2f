-- The last transactions that were closed, as a console shows them.
use Rattle.std.specs.Prelude.{◌≡◌, ◌≢◌, ◌⊎◌, ◌+◌, ◌-◌, ◌^◌, ◌++◌, ◌∷◌, List, [], All, drop, if◌then◌else◌, length, min, nat_le}
use Rattle.cfdp_header.specs.declared.value.TransactionId.{TransactionId}
use Rattle.cfdp_console.specs.declared.ledger.Closed.{Closed}
use Rattle.cfdp_console.specs.declared.ledger.Known.{Known}
use Rattle.cfdp_console.specs.declared.ledger.Ledger.{Ledger}
use Rattle.cfdp_console.specs.declared.ledger.TransferEnd.{TransferEnd}

-- None of these is the transaction of that id.
abbrev pub AreOthers : TransactionId → List Closed → Type 0
AreOthers id closed = All (λ one. one.id ≢ id) closed

-- what is kept of them when another one is closed: without the first, if they are 200
abbrev pub making_room : List Closed → List Closed
making_room closed = if nat_le 200 (length closed) then drop 1 closed else closed

-- They were kept, and this one is kept as the last, unless memory ran out.
abbrev pub IsKeptOf : Closed → (old new : List Closed) → Type 0
IsKeptOf one old new = (new ≡ making_room old ++ one ∷ []) ⊎ (new ≡ making_room old)

-- A transaction was closed: it is counted, and kept so as the last one.
pub record Closes (id : TransactionId) (ending : TransferEnd) (old new : Ledger) : Type 0 where
  pub counted : new.closings ≡ min (old.closings + 1) (2 ^ 64 - 1)
  pub known : Known
  pub kept : IsKeptOf (record { number = new.closings; id = id; known = known; ending = ending }) old.closed.items new.closed.items
