-- How long a machine goes on if nobody answers it: what both machines have in common.
use Rattle.std.specs.Prelude.{◌≡◌, ◌⊎◌, ℕ, ◌+◌, ◌-◌, Bool, true, false, List, [], ◌∷◌}
use Rattle.cfdp_header.specs.declared.value.TransactionId.{TransactionId}
use Rattle.cfdp_directives.specs.declared.user.handler.Handler.{Handler}
use Rattle.cfdp_directives.specs.declared.user.handler.Handler.TheVariants.{Cancel, Suspend, Ignore, Abandon}
use Rattle.cfdp_directives.specs.declared.user.indication.Indication.{Indication}
use Rattle.cfdp_directives.specs.declared.user.indication.Indication.TheVariants.{Fault, Suspended, Abandoned}

-- how often a timer may still expire until that is a fault: once for each time that what it waits
-- for may be sent again, and then once more
abbrev pub tries_left : (count limit : ℕ) → ℕ
tries_left count limit = limit - count + 1

-- `true` if a fault with this handler is only indicated, and the transaction goes on as before
abbrev pub is_ignored : Handler → Bool
is_ignored Cancel = false
is_ignored Suspend = false
is_ignored Ignore = true
is_ignored Abandon = false

-- `true` if a fault with this handler ends the transaction
abbrev pub ends_it : Handler → Bool
ends_it Cancel = true
ends_it Suspend = false
ends_it Ignore = false
ends_it Abandon = true

-- A fault of a transaction was indicated, and that it is given up, or suspended, for that.
abbrev pub TellsEnd : TransactionId → List Indication → Type 0
TellsEnd id told = (condition : ℕ) × ((told ≡ Fault id condition ∷ Abandoned id condition ∷ [])
    ⊎ (told ≡ Fault id condition ∷ Suspended id condition ∷ []))
