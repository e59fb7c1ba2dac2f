-- The steps of a receiver, one for each input (CCSDS 727.0-B-5, 4.6.1.2 and 4.6.4; 4.6.6 and 4.8
-- for cancelling, suspension and faults). What is staged for the transaction stands beside the
-- receiver, which keeps no octets. If a step calls the inbox, `stored` is the answer.
use Rattle.std.specs.Prelude.{◌++◌, ℕ, ◌+◌, ◌==◌, ◌&&◌, ◌||◌, not, Bool, true, false, nat_lt, is_none, is_some, List, [], ◌∷◌, length, Option, Some, None, if◌then◌else◌}
use Rattle.std.specs.FinMap as map
use Rattle.std.specs.FinSet as set
use Rattle.cfdp_header.specs.Files.{FileMap}
use Rattle.cfdp_directives.specs.declared.pdu.addressing.Addressing.{Addressing}
use Rattle.cfdp_directives.specs.declared.pdu.codes.Delivery.TheVariants.{Complete, Incomplete}
use Rattle.cfdp_directives.specs.declared.pdu.codes.FileStatus.{FileStatus}
use Rattle.cfdp_directives.specs.declared.pdu.codes.FileStatus.TheVariants.{Discarded, Rejected, Retained}
use Rattle.cfdp_directives.specs.declared.user.handler.Handler.{Handler}
use Rattle.cfdp_directives.specs.declared.user.handler.Handler.TheVariants.{Cancel, Suspend, Ignore, Abandon}
use Rattle.cfdp_directives.specs.declared.user.indication.Indication.{Indication}
use Rattle.cfdp_directives.specs.declared.user.indication.Indication.TheVariants as indication
use Rattle.cfdp_directives.specs.declared.user.policy.Policy.{Policy}
use Rattle.cfdp_directives.specs.declared.user.telling.Outcome.{Outcome}
use Rattle.cfdp_directives.specs.Pdu.Codes.{size_limit, no_error, positive_ack_limit, filestore_rejection, file_checksum_failure, file_size_error, nak_limit, inactivity, unsupported_checksum_type, suspend_request, cancel_request, null, is_known}
use Rattle.cfdp_directives.specs.declared.pdu.sums.Checksums.{Checksums}
use Rattle.cfdp_directives.specs.Pdu.Sums.{nothing_summed, all_summed, sum_told}
use Rattle.cfdp_directives.specs.User.Policy.{another_try, finished_told, fault_told}
use Rattle.cfdp_extents.specs.Offsets.{range}
use Rattle.cfdp_extents.specs.Terms.{end_of}
use Rattle.cfdp_store.specs.declared.stored.Stored.{Stored}
use Rattle.cfdp_store.specs.declared.stored.Stored.TheVariants.{Done, Refused}
use Rattle.cfdp_store.specs.Staged.{OctetMap, front}
use Rattle.cfdp_timers.specs.declared.kind.Kind.{Kind}
use Rattle.cfdp_timers.specs.declared.kind.Kind.TheVariants as kind
use Rattle.cfdp_receiver.specs.declared.due.Due.{Due}
use Rattle.cfdp_receiver.specs.declared.due.Due.TheVariants as due
use Rattle.cfdp_receiver.specs.declared.state.ReceiverPhase.{ReceiverPhase}
use Rattle.cfdp_receiver.specs.declared.state.ReceiverPhase.TheVariants.{Receiving, Finishing, Closed}
use Rattle.cfdp_receiver.specs.declared.state.FileInfo.{FileInfo}
use Rattle.cfdp_receiver.specs.declared.state.Ending.{Ending}
use Rattle.cfdp_receiver.specs.State.{ReceiverState, kind_told, opened_receiver, flagged, is_receiving, is_finishing}
use Rattle.cfdp_receiver.specs.Missing.{tidied}
use Rattle.cfdp_receiver.specs.Due.{receiver_taken}
use Rattle.cfdp_receiver.specs.Pieces.{new_pieces, staged_with}

-- What a step leaves: the receiver, what it indicated, the timer that it armed again, if it waits
-- for it, what is staged while it receives, and the published files.
pub record ReceiverAfter : Type 0 where
  pub receiver : ReceiverState
  pub told : List Indication
  pub anew : Option Kind
  pub octets : OctetMap
  pub files : FileMap

-- nothing but the receiver changes
abbrev pub leaving : OctetMap → FileMap → ReceiverState → ReceiverAfter
leaving m files r = record { receiver = r; told = []; anew = None; octets = m; files = files }

-- after these were indicated first
abbrev pub telling : List Indication → ReceiverAfter → ReceiverAfter
telling told a = record a { told = told ++ a.told }

-- with a timer armed again
abbrev pub arming : Kind → ReceiverAfter → ReceiverAfter
arming k a = record a { anew = Some k }

-- and a NAK that is due is over if nothing is missing from its cursor on
abbrev pub tidying : ReceiverAfter → ReceiverAfter
tidying a = record a { receiver = tidied a.receiver }

-- ---- how a transaction ends
-- a receiver that receives no more: nothing is held, asked for, counted or suspended. If an ACK of
-- EOF is due, it stays so
abbrev pub ended : ReceiverPhase → ReceiverState → ReceiverState
ended phase r = record r {
  phase = phase;
  suspended = false;
  held = set.empty;
  sums = nothing_summed;
  nak_cursor = None;
  keep_alive_due = false;
  finished_due = false;
  finished_taken = false;
  nak_count = 0;
  finished_count = 0;
}

-- a Finished is due
abbrev pub finishing : Outcome → ReceiverState → ReceiverState
finishing o r = record (ended Finishing r) { finished_due = true; outcome = Some o }

abbrev pub closed : ReceiverState → ReceiverState
closed r = ended Closed r

-- the end of a transaction is indicated, and Finished is due
abbrev pub ends : Outcome → OctetMap → FileMap → ReceiverState → ReceiverAfter
ends o m files r = telling (finished_told r.addressing.id o ∷ []) (leaving m files (finishing o r))

abbrev pub status_after : ℕ → FileStatus
status_after condition = if condition == filestore_rejection then Rejected else Discarded

-- what becomes of a transaction if it fails with this condition: the inbox must discard it
abbrev pub failed : ℕ → Outcome
failed condition =
    record { condition = condition; delivery = Incomplete; status = status_after condition }

abbrev pub complete : Outcome
complete = record { condition = no_error; delivery = Complete; status = Retained }

-- a fault ends the transaction
abbrev pub faulted : ℕ → OctetMap → FileMap → ReceiverState → ReceiverAfter
faulted condition m files r =
    telling (fault_told Cancel r.addressing.id condition) (ends (failed condition) m files r)

-- ---- the completion test
-- `true` if the checksum agrees: the null checksum isn't compared
abbrev pub agrees : FileInfo → Ending → Checksums → Bool
agrees info ending sums =
    (info.checksum_kind == null) || (sum_told info.checksum_kind sums == ending.checksum)

-- the file is published, and that it is complete is indicated in the same step
abbrev pub published_by : Stored → FileInfo → Ending →
    OctetMap → FileMap → ReceiverState → ReceiverAfter
published_by Done info ending m files r =
    ends complete m (map.insert files info.destination (front m ending.size)) r
published_by Refused info ending m files r = faulted filestore_rejection m files r

abbrev pub completed_by : Stored → Option FileInfo → Option Ending →
    OctetMap → FileMap → ReceiverState → ReceiverAfter
completed_by stored (Some info) (Some ending) m files r =
    if set.is_subset (range 0 ending.size) r.held then
    (if agrees info ending r.sums then published_by stored info ending m files r
    else faulted file_checksum_failure m files r)
    else leaving m files r
completed_by stored (Some info) None m files r = leaving m files r
completed_by stored None ending m files r = leaving m files r

-- If Metadata and EOF were heard, and every offset below the EOF's size is held, the file is
-- published
abbrev pub completed : Stored → OctetMap → FileMap → ReceiverState → ReceiverAfter
completed stored m files r = completed_by stored r.metadata r.ending m files r

-- ---- what is heard while it receives
-- `true` if a checksum of this kind can be made
abbrev pub is_supported : ℕ → Bool
is_supported checksum_kind = is_known checksum_kind

-- the first Metadata; others say nothing
abbrev pub receives_metadata : Stored → (checksum_kind size : ℕ) → (source destination : List ℕ) →
    OctetMap → FileMap → ReceiverState → ReceiverAfter
receives_metadata stored checksum_kind size source destination m files r =
    if is_some r.metadata then leaving m files r else
    telling (indication.MetadataRecv r.addressing.id source destination size ∷ [])
    (let info : FileInfo = record { checksum_kind = checksum_kind; destination = destination } in
    let r1 : ReceiverState = record r { metadata = Some info; nak_count = 0 } in
    if is_supported checksum_kind then completed stored m files r1
    else faulted unsupported_checksum_type m files r1)

-- `true` if an end is beyond the EOF's size, if one was heard, or beyond the greatest size, by the
-- large file flag of the PDU
abbrev pub exceeds : Bool → Option Ending → ℕ → Bool
exceeds large (Some ending) end = nat_lt ending.size end || nat_lt (size_limit large) end
exceeds large None end = nat_lt (size_limit large) end

-- with octets from an offset on: those that weren't held are summed, for the checksum type that
-- Metadata said or for all of them, and held, and some were new
abbrev pub with_data : ℕ → List ℕ → ReceiverState → ReceiverState
with_data offset bytes r = record r {
  held = set.union r.held (range offset (offset + length bytes));
  sums = all_summed (kind_told r.metadata) r.sums (new_pieces r.held offset bytes);
  nak_count = 0;
}

-- octets, some of them new: those that aren't held are staged. The others keep their value
abbrev pub receives_new : Stored → ℕ → List ℕ → OctetMap → FileMap → ReceiverState → ReceiverAfter
receives_new Done offset bytes m files r =
    completed Done (staged_with m (new_pieces r.held offset bytes)) files (with_data offset bytes r)
receives_new Refused offset bytes m files r = faulted filestore_rejection m files r

abbrev pub receives_data : Stored → (large : Bool) → ℕ → List ℕ →
    OctetMap → FileMap → ReceiverState → ReceiverAfter
receives_data stored large offset bytes m files r =
    if exceeds large r.ending (offset + length bytes) then faulted file_size_error m files r
    else if set.is_subset (range offset (offset + length bytes)) r.held
    then completed stored m files r
    else receives_new stored offset bytes m files r

-- `true` if an EOF's size is below what is held, or above the greatest size, by the EOF's large
-- file flag. Without the flag no EOF can say more than that
abbrev pub contradicts : Bool → ℕ → ReceiverState → Bool
contradicts large size r = nat_lt size (end_of r.held) || nat_lt (size_limit large) size

-- the first EOF without an error: if something is still missing, it is asked for
abbrev pub first_eof : Stored → (large : Bool) → (checksum size : ℕ) →
    OctetMap → FileMap → ReceiverState → ReceiverAfter
first_eof stored large checksum size m files r =
    telling (indication.EofRecv r.addressing.id ∷ [])
    (let ending : Ending = record { checksum = checksum; size = size } in
    let r1 : ReceiverState =
    record r { ending = Some ending; ack_due = Some no_error; nak_cursor = Some 0 } in
    if contradicts large size r then faulted file_size_error m files r1
    else completed stored m files r1)

-- what becomes of a transaction if its sender gave it up
abbrev pub given_up : ℕ → Outcome
given_up condition = record { condition = condition; delivery = Incomplete; status = Discarded }

abbrev pub cancelled : ℕ → ReceiverState → ReceiverState
cancelled condition r =
    record (closed r) { ack_due = Some condition; outcome = Some (given_up condition) }

-- an EOF with an error ends the transaction: it is discarded, and its sender knows
abbrev pub cancelled_by : ℕ → OctetMap → FileMap → ReceiverState → ReceiverAfter
cancelled_by condition m files r =
    telling (finished_told r.addressing.id (given_up condition) ∷ [])
    (leaving m files (cancelled condition r))

abbrev pub receives_eof : Stored → (large : Bool) → (condition checksum size : ℕ) →
    OctetMap → FileMap → ReceiverState → ReceiverAfter
receives_eof stored large condition checksum size m files r =
    if not (condition == no_error) then cancelled_by condition m files r
    else if is_none r.ending then first_eof stored large checksum size m files r
    else leaving m files (record r { ack_due = Some no_error; nak_cursor = Some 0 })

-- ---- what is heard
-- each PDU of the transaction arms Inactivity again, whatever else it does
abbrev pub heard : ReceiverAfter → ReceiverAfter
heard a = arming kind.Inactivity (tidying a)

abbrev pub hears_metadata : Stored → (checksum_kind size : ℕ) → (source destination : List ℕ) →
    OctetMap → FileMap → ReceiverState → ReceiverAfter
hears_metadata stored checksum_kind size source destination m files r =
    heard (if is_receiving r.phase
    then receives_metadata stored checksum_kind size source destination m files r
    else leaving m files r)

abbrev pub hears_data : Stored → (large : Bool) → ℕ → List ℕ →
    OctetMap → FileMap → ReceiverState → ReceiverAfter
hears_data stored large offset bytes m files r =
    heard (if is_receiving r.phase then receives_data stored large offset bytes m files r
    else leaving m files r)

-- if the transaction is over, each EOF is acknowledged
abbrev pub hears_eof : Stored → (large : Bool) → (condition checksum size : ℕ) →
    OctetMap → FileMap → ReceiverState → ReceiverAfter
hears_eof stored large condition checksum size m files r =
    heard (if is_receiving r.phase then receives_eof stored large condition checksum size m files r
    else leaving m files (record r { ack_due = Some condition }))

-- the ACK of a Finished that was sent closes the transaction, whatever it says
abbrev pub acknowledged_by : ReceiverState → ReceiverState
acknowledged_by r = if is_finishing r.phase && r.finished_taken then closed r else r

abbrev pub hears_ack : OctetMap → FileMap → ReceiverState → ReceiverAfter
hears_ack m files r = heard (leaving m files (acknowledged_by r))

abbrev pub prompted_for : Bool → ReceiverState → ReceiverState
prompted_for true r = record r { keep_alive_due = true }
prompted_for false r = record r { nak_cursor = Some 0 }

-- a Prompt asks for a Keep Alive, or for a NAK
abbrev pub hears_prompt : Bool → OctetMap → FileMap → ReceiverState → ReceiverAfter
hears_prompt keep_alive m files r =
    heard (leaving m files (if is_receiving r.phase then prompted_for keep_alive r else r))

-- ---- how a record is opened
-- by Metadata, file data or an EOF without an error, once the inbox began the transaction. The
-- receiver must hear that PDU next, which arms its timers. If the inbox refuses, the PDU isn't
-- taken further except for its large file flag, and no timer is waited for
abbrev pub opens : Stored → (large : Bool) → FileMap → Addressing → ReceiverAfter
opens Done large files addressing = leaving map.empty files (opened_receiver addressing)
opens Refused large files addressing =
    faulted filestore_rejection map.empty files (flagged large (opened_receiver addressing))

-- by an EOF with an error: it is closed, and nothing is indicated
abbrev pub opened_closed : (large : Bool) → ℕ → Addressing → ReceiverState
opened_closed large condition addressing =
    record (closed (flagged large (opened_receiver addressing))) { ack_due = Some condition }

-- ---- taking what is due
abbrev pub anew_once_taken : Due → Option Kind
anew_once_taken (due.Finished o) = Some kind.FinishedAck
anew_once_taken (due.AckOfEof condition) = None
anew_once_taken (due.Nak cursor) = None
anew_once_taken due.KeepAlive = None

abbrev pub takes : Due → OctetMap → FileMap → ReceiverState → ReceiverAfter
takes d m files r = record (leaving m files (receiver_taken d r)) { anew = anew_once_taken d }

-- ---- timers
abbrev pub waits_in : ReceiverPhase → Kind → ReceiverState → Bool
waits_in Receiving kind.Inactivity r = true
waits_in Receiving kind.Nak r = is_some r.ending && is_none r.nak_cursor
waits_in Receiving kind.EofAck r = false
waits_in Receiving kind.FinishedAck r = false
waits_in Finishing kind.FinishedAck r = r.finished_taken && not r.finished_due
waits_in Finishing kind.Inactivity r = false
waits_in Finishing kind.Nak r = false
waits_in Finishing kind.EofAck r = false
waits_in Closed k r = false

-- `true` if the receiver waits for a timer; if it is suspended, it waits for none
abbrev pub waits : Kind → ReceiverState → Bool
waits k r = not r.suspended && waits_in r.phase k r

-- what is done about a fault, by the handler, if there is a choice
abbrev pub handled : Handler → ℕ → OctetMap → FileMap → ReceiverState → ReceiverAfter
handled Cancel condition m files r = faulted condition m files r
handled Suspend condition m files r =
    telling (fault_told Suspend r.addressing.id condition)
    (leaving m files (record r { suspended = true }))
handled Ignore condition m files r =
    telling (fault_told Ignore r.addressing.id condition)
    (leaving m files (record r { nak_count = 0; finished_count = 0 }))
handled Abandon condition m files r =
    telling (fault_told Abandon r.addressing.id condition) (leaving m files (closed r))

-- what a fault leaves if its handler ignores it: a NAK is due from 0 on
abbrev pub asking_again : Handler → ReceiverAfter → ReceiverAfter
asking_again Ignore a = record a { receiver = record a.receiver { nak_cursor = Some 0 } }
asking_again Cancel a = a
asking_again Suspend a = a
asking_again Abandon a = a

abbrev pub nak_expires : Option ℕ → Handler → OctetMap → FileMap → ReceiverState → ReceiverAfter
nak_expires (Some count) handler m files r =
    leaving m files (record r { nak_count = count; nak_cursor = Some 0 })
nak_expires None handler m files r = asking_again handler (handled handler nak_limit m files r)

abbrev pub finished_expires : Option ℕ → OctetMap → FileMap → ReceiverState → ReceiverAfter
finished_expires (Some count) m files r =
    leaving m files (record r { finished_count = count; finished_due = true })
finished_expires None m files r = handled Abandon positive_ack_limit m files r

abbrev pub expires_by : Kind → Policy → OctetMap → FileMap → ReceiverState → ReceiverAfter
expires_by kind.Nak policy m files r =
    nak_expires (another_try r.nak_count policy.limits.nak) policy.handlers.nak m files r
expires_by kind.FinishedAck policy m files r =
    finished_expires (another_try r.finished_count policy.limits.finished) m files r
expires_by kind.Inactivity policy m files r =
    handled policy.handlers.inactivity inactivity m files r
expires_by kind.EofAck policy m files r = leaving m files r

-- Inactivity is armed again if its expiry is ignored
abbrev pub anew_once_expired : Kind → Option Kind
anew_once_expired kind.Inactivity = Some kind.Inactivity
anew_once_expired kind.EofAck = None
anew_once_expired kind.Nak = None
anew_once_expired kind.FinishedAck = None

-- if an expiry isn't waited for, it does nothing
abbrev pub expires : Kind → Policy → OctetMap → FileMap → ReceiverState → ReceiverAfter
expires k policy m files r =
    if waits k r
    then record (tidying (expires_by k policy m files r)) { anew = anew_once_expired k }
    else leaving m files r

-- ---- calls of the user
-- a transaction that is being received is given up, and Finished will say so to its sender
abbrev pub cancels : OctetMap → FileMap → ReceiverState → ReceiverAfter
cancels m files r =
    if is_receiving r.phase then ends (failed cancel_request) m files r else leaving m files r

abbrev pub suspends : OctetMap → FileMap → ReceiverState → ReceiverAfter
suspends m files r =
    if is_receiving r.phase && not r.suspended
    then telling (indication.Suspended r.addressing.id suspend_request ∷ [])
    (leaving m files (record r { suspended = true }))
    else leaving m files r

abbrev pub resumes : OctetMap → FileMap → ReceiverState → ReceiverAfter
resumes m files r =
    if r.suspended
    then telling (indication.Resumed r.addressing.id ∷ [])
    (leaving m files (record r { suspended = false; nak_count = 0; finished_count = 0 }))
    else leaving m files r
