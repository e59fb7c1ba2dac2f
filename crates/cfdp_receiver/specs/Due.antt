-- What a receiver sends next, and what that leaves (CCSDS 727.0-B-5, 4.6.4 and 4.6.5).
use Rattle.std.specs.Prelude.{◌≡◌, ◌≤◌, ℕ, ◌==◌, Bool, true, false, not, ◌||◌, List, [], ◌∷◌, Option, Some, None, if◌then◌else◌}
use Rattle.cfdp_directives.specs.declared.pdu.addressing.Addressing.{Addressing}
use Rattle.cfdp_directives.specs.declared.pdu.codes.Acknowledged.TheVariants as acknowledged
use Rattle.cfdp_directives.specs.declared.pdu.codes.TransactionStatus.{TransactionStatus}
use Rattle.cfdp_directives.specs.declared.pdu.codes.TransactionStatus.TheVariants.{Active, Terminated}
use Rattle.cfdp_directives.specs.declared.user.telling.Outcome.{Outcome}
use Rattle.cfdp_directives.specs.Pdu.Addressing.{written_len}
use Rattle.cfdp_directives.specs.Pdu.Codes.{size_limit, no_error, unsupported_checksum_type}
use Rattle.cfdp_directives.specs.Pdu.Content.{Content, Finished, Ack, Nak, KeepAlive}
use Rattle.cfdp_directives.specs.Pdu.Tlv.{Tlv, fault_location}
use Rattle.cfdp_extents.specs.Terms.{end_of}
use Rattle.cfdp_receiver.specs.declared.due.Due.{Due}
use Rattle.cfdp_receiver.specs.declared.due.Due.TheVariants as due
use Rattle.cfdp_receiver.specs.declared.state.ReceiverPhase.{ReceiverPhase}
use Rattle.cfdp_receiver.specs.declared.state.ReceiverPhase.TheVariants.{Receiving, Finishing, Closed}
use Rattle.cfdp_receiver.specs.State.{ReceiverState}
use Rattle.cfdp_receiver.specs.Missing.{missing_pairs, asked, scope_end, scope_limit, next_cursor}

abbrev pub keep_alive_first : Bool → Option Due
keep_alive_first true = Some due.KeepAlive
keep_alive_first false = None

abbrev pub pairs_first : ℕ → List (ℕ × ℕ) → ReceiverState → Option Due
pairs_first cursor [] r = keep_alive_first r.keep_alive_due
pairs_first cursor (p ∷ ps) r = Some (due.Nak cursor)

abbrev pub nak_first : Option ℕ → ReceiverState → Option Due
nak_first (Some cursor) r = pairs_first cursor (missing_pairs cursor r) r
nak_first None r = keep_alive_first r.keep_alive_due

abbrev pub finished_by : Bool → Option Outcome → Option Due
finished_by true (Some outcome) = Some (due.Finished outcome)
finished_by true None = None
finished_by false outcome = None

abbrev pub phase_due : ReceiverPhase → ReceiverState → Option Due
phase_due Receiving r = nak_first r.nak_cursor r
phase_due Finishing r = finished_by r.finished_due r.outcome
phase_due Closed r = None

abbrev pub ack_first : Option ℕ → ReceiverState → Option Due
ack_first (Some condition) r = Some (due.AckOfEof condition)
ack_first None r = phase_due r.phase r

-- what is due, the first that holds: the ACK of EOF; a NAK; a Keep Alive; Finished. If it is
-- closed, the ACK of EOF alone, and nothing if it is suspended
abbrev pub receiver_due : ReceiverState → Option Due
receiver_due r = if r.suspended then None else ack_first r.ack_due r

-- the status in an ACK of EOF: terminated if it is closed
abbrev pub status_in : ReceiverPhase → TransactionStatus
status_in Receiving = Active
status_in Finishing = Active
status_in Closed = Terminated

-- `true` if a Finished with this condition says where the fault was (CCSDS 727.0-B-5, table 5-7)
abbrev pub tells_location : ℕ → Bool
tells_location condition = not ((condition == no_error) || (condition == unsupported_checksum_type))

-- the location of the fault of a transaction, as its Finished says it: at the receiver
abbrev pub location_told : Addressing → ℕ → List Tlv
location_told a condition =
    if tells_location condition then fault_location a.destination a.id_width ∷ [] else []

-- what the PDU that is due says
abbrev pub receiver_says : ReceiverState → Due → Content
receiver_says r (due.AckOfEof condition) = Ack acknowledged.Eof condition (status_in r.phase)
receiver_says r (due.Nak cursor) =
    let pairs = missing_pairs cursor r in Nak cursor (scope_end (scope_limit r) pairs) (asked pairs)
receiver_says r due.KeepAlive = KeepAlive (end_of r.held)
receiver_says r (due.Finished o) =
    Finished o.condition o.delivery o.status (location_told r.addressing o.condition)

-- the receiver once it was taken
abbrev pub receiver_taken : Due → ReceiverState → ReceiverState
receiver_taken (due.AckOfEof condition) r = record r { ack_due = None }
receiver_taken (due.Nak cursor) r = record r { nak_cursor = next_cursor (missing_pairs cursor r) }
receiver_taken due.KeepAlive r = record r { keep_alive_due = false }
receiver_taken (due.Finished o) r = record r { finished_due = false; finished_taken = true }

abbrev pub len_of : ReceiverState → Option Due → Option ℕ
len_of r (Some d) = Some (written_len r.addressing r.large (receiver_says r d))
len_of r None = None

-- octets of the PDU that is due, its header too
abbrev pub due_len : ReceiverState → Option ℕ
due_len r = len_of r (receiver_due r)

-- A NAK is due only while it receives, and its offset must be one that can be written.
abbrev pub IsWritableIn : ReceiverState → Due → Type 0
IsWritableIn r (due.Nak cursor) = (r.phase ≡ Receiving) × (cursor ≤ size_limit r.large)
IsWritableIn r (due.AckOfEof condition) = Unit {0}
IsWritableIn r due.KeepAlive = Unit {0}
IsWritableIn r (due.Finished o) = Unit {0}
