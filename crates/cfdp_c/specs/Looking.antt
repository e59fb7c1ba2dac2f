-- What a caller reads of the transactions.
use Rattle.std.specs.Prelude.{◌≡◌, ◌+◌, ℕ, Option, None, Some}
use Rattle.cfdp_header.specs.declared.value.TransactionId.{TransactionId}
use Rattle.cfdp_directives.specs.declared.user.phase.Phase.{Phase}
use Rattle.cfdp_directives.specs.declared.user.phase.Phase.TheVariants as phases
use Rattle.cfdp_c.specs.Codes.{ok, nothing}
use Rattle.cfdp_c.specs.Told.{written_id}
use Rattle.cfdp_c.specs.declared.looking.CfdpTransaction.{CfdpTransaction}

abbrev pub phase_number : Phase → ℕ
phase_number phases.Sending = 1
phase_number phases.Cancelling = 2
phase_number phases.Receiving = 3
phase_number phases.Finishing = 4
phase_number phases.Closed = 5

abbrev pub transaction_told : TransactionId × Phase → CfdpTransaction
transaction_told t = record { id = written_id t.0; phase = phase_number t.1 }

-- The transaction at a cursor was reported, if there is one, and the cursor went on to the next.
abbrev pub TellsNext : Option (TransactionId × Phase) → (answer : ℕ) → (at_before at_now : ℕ)
    → (out_before out_now : CfdpTransaction) → Type 0
TellsNext None answer at_before at_now out_before out_now =
    (answer ≡ nothing) × (at_now ≡ at_before) × (out_now ≡ out_before)
TellsNext (Some t) answer at_before at_now out_before out_now =
    (answer ≡ ok) × (at_now ≡ at_before + 1) × (out_now ≡ transaction_told t)
