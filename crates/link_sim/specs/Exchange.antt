-- Proof-only: one transaction, that is a sender, a receiver or none yet, and the
-- PDUs on their way between them (CCSDS 727.0-B-5, 5.2 and 5.3).
use Rattle.std.specs.Prelude.{◌≡◌, ℕ, ◌+◌, ◌≤◌, ◌==◌, ◌&&◌, Bool, true, false, List, [], ◌∷◌, length, is_some, Option, Some, None}
use Rattle.std.specs.List.{list_any}
use Rattle.std.specs.FinSet as set
use Rattle.cfdp_header.specs.declared.value.TransactionId.{TransactionId}
use Rattle.cfdp_header.specs.Ids.{same_id}
use Rattle.cfdp_directives.specs.declared.pdu.codes.Acknowledged.TheVariants as acknowledged
use Rattle.cfdp_directives.specs.declared.pdu.codes.Delivery.TheVariants.{Complete}
use Rattle.cfdp_directives.specs.declared.pdu.codes.FileStatus.TheVariants.{Retained}
use Rattle.cfdp_directives.specs.declared.user.indication.Indication.{Indication}
use Rattle.cfdp_directives.specs.declared.user.indication.Indication.TheVariants as indication
use Rattle.cfdp_directives.specs.Pdu.Codes.{no_error}
use Rattle.cfdp_directives.specs.User.Completions.{is_complete}
use Rattle.cfdp_directives.specs.Pdu.Content.{Content, FileData, Metadata, Eof, Finished, Ack, Nak, Prompt, KeepAlive}
use Rattle.cfdp_directives.specs.User.Put.{Put}
use Rattle.cfdp_extents.specs.Offsets.{is_within}
use Rattle.cfdp_receiver.specs.declared.state.ReceiverPhase.{ReceiverPhase}
use Rattle.cfdp_receiver.specs.declared.state.ReceiverPhase.TheVariants.{Receiving, Finishing, Closed}
use Rattle.cfdp_receiver.specs.State.{ReceiverState, is_finishing}

-- ---- what a PDU says
abbrev pub is_metadata : Content → Bool
is_metadata (Metadata kind size source destination options) = true
is_metadata _ = false

abbrev pub is_eof : Content → Bool
is_eof (Eof condition checksum size tlvs) = true
is_eof _ = false

abbrev pub is_finished : Content → Bool
is_finished (Finished condition delivery status tlvs) = true
is_finished _ = false

abbrev pub is_ack_of_finished : Content → Bool
is_ack_of_finished (Ack acknowledged.Finished condition status) = true
is_ack_of_finished _ = false

-- of an EOF without an error
abbrev pub is_ack_of_eof : Content → Bool
is_ack_of_eof (Ack acknowledged.Eof condition status) = condition == no_error
is_ack_of_eof _ = false

-- whether it has the octet at this offset
abbrev pub brings : ℕ → Content → Bool
brings n (FileData offset bytes) = is_within offset (offset + length bytes) n
brings n _ = false

-- whether it is a NAK that asks for this offset, or for Metadata
abbrev pub names : ℕ → Content → Bool
names n (Nak start end pairs) = list_any (λ p. is_within p.0 p.1 n) pairs
names n _ = false

abbrev pub names_metadata : Content → Bool
names_metadata (Nak start end pairs) = list_any (λ p. (p.0 == 0) && (p.1 == 0)) pairs
names_metadata _ = false

-- whether one of the PDUs says this
abbrev pub one_says : (Content → Bool) → List Content → Bool
one_says says pdus = list_any says pdus

-- ---- what a PDU on its way to the receiver, or to the sender, may say of this put
-- File data lie in the file, and an EOF has no error and the file's size. What a receiver sends
-- isn't on its way to one.
abbrev pub IsTrueForth : Put → Content → Type 0
IsTrueForth put (FileData offset bytes) = offset + length bytes ≤ length put.octets
IsTrueForth put (Eof condition checksum size tlvs) =
    (condition ≡ no_error) × (size ≡ length put.octets)
IsTrueForth put (Metadata kind size source destination options) = Unit {0}
IsTrueForth put (Prompt keep_alive) = Unit {0}
IsTrueForth put (Ack acknowledged.Finished condition status) = Unit {0}
IsTrueForth put (Ack acknowledged.Eof condition status) = ⊥
IsTrueForth put (Finished condition delivery status tlvs) = ⊥
IsTrueForth put (Nak start end pairs) = ⊥
IsTrueForth put (KeepAlive progress) = ⊥

-- A Finished says that the file was delivered.
abbrev pub IsTrueBack : Content → Type 0
IsTrueBack (Finished condition delivery status tlvs) =
    (condition ≡ no_error) × (delivery ≡ Complete) × (status ≡ Retained)
IsTrueBack (Ack acknowledged.Eof condition status) = Unit {0}
IsTrueBack (Nak start end pairs) = Unit {0}
IsTrueBack (KeepAlive progress) = Unit {0}
IsTrueBack (Ack acknowledged.Finished condition status) = ⊥
IsTrueBack (FileData offset bytes) = ⊥
IsTrueBack (Metadata kind size source destination options) = ⊥
IsTrueBack (Eof condition checksum size tlvs) = ⊥
IsTrueBack (Prompt keep_alive) = ⊥

abbrev pub AllTrue : {X : Type 0} → (X → Type 0) → List X → Type 0
AllTrue Is [] = Unit {0}
AllTrue Is (x ∷ xs) = Is x × AllTrue Is xs

-- ---- what a receiver has come to
-- once it receives no more, all was heard
abbrev pub once_ended : ReceiverPhase → Bool → Bool
once_ended Receiving b = b
once_ended Finishing b = true
once_ended Closed b = true

abbrev pub knows_metadata : ReceiverState → Bool
knows_metadata r = once_ended r.phase (is_some r.metadata)

abbrev pub knows_ending : ReceiverState → Bool
knows_ending r = once_ended r.phase (is_some r.ending)

abbrev pub holds : ℕ → ReceiverState → Bool
holds n r = once_ended r.phase (set.contains r.held n)

abbrev pub has_ended : ReceiverState → Bool
has_ended r = once_ended r.phase false

abbrev pub if_ended : ReceiverPhase → Bool → Bool
if_ended Receiving b = false
if_ended Finishing b = b
if_ended Closed b = true

-- whether its Finished was sent
abbrev pub has_finished : ReceiverState → Bool
has_finished r = if_ended r.phase r.finished_taken

abbrev pub finishes : ReceiverState → Bool
finishes r = is_finishing r.phase

abbrev pub is_closed_in : ReceiverPhase → Bool
is_closed_in Receiving = false
is_closed_in Finishing = false
is_closed_in Closed = true

abbrev pub is_closed : ReceiverState → Bool
is_closed r = is_closed_in r.phase

abbrev pub finished_is_due : ReceiverState → Bool
finished_is_due r = r.finished_due

abbrev pub is_no_error : Option ℕ → Bool
is_no_error (Some condition) = condition == no_error
is_no_error None = false

-- whether the ACK of an EOF without an error is due
abbrev pub owes_ack : ReceiverState → Bool
owes_ack r = is_no_error r.ack_due

-- a test of the receiver, if there is one
abbrev pub maybe : (ReceiverState → Bool) → Option ReceiverState → Bool
maybe test (Some r) = test r
maybe test None = false

-- ---- what was indicated
-- that this transaction was delivered
abbrev pub tells_complete : TransactionId → Indication → Bool
tells_complete id (indication.Finished of condition delivery status) =
    same_id id of && is_complete condition delivery status
tells_complete id _ = false

-- that it was suspended
abbrev pub pauses : TransactionId → Indication → Bool
pauses id (indication.Suspended of condition) = same_id id of
pauses id _ = false
