-- Indications and PDUs as plain structs.
use Rattle.std.specs.Prelude.{◌≡◌, ◌++◌, ℕ, Bool, true, false, List, [], length, drop, nat_le, Option, Some, None}
use Rattle.cfdp_header.specs.declared.value.Header.{Header}
use Rattle.cfdp_header.specs.Header.{direction_bit}
use Rattle.cfdp_header.specs.declared.value.TransactionId.{TransactionId}
use Rattle.cfdp_directives.specs.Pdu.Codes.{delivery_code, file_status_code, transaction_status_code, acknowledged_code}
use Rattle.cfdp_directives.specs.Pdu.Content.{Content, FileData, Metadata, Eof, Finished, Ack, Nak, Prompt, KeepAlive}
use Rattle.cfdp_directives.specs.declared.user.indication.Indication.{Indication}
use Rattle.cfdp_directives.specs.declared.user.indication.Indication.TheVariants as told
use Rattle.cfdp_entity.specs.Entity.{with_table}
use Rattle.cfdp_entity.specs.Table.{without_told}
use Rattle.cfdp_station.specs.Station.{StationState, KeepsLink}
use Rattle.cfdp_c.specs.Codes.{ok, no_room, nothing}
use Rattle.cfdp_c.specs.declared.calls.CfdpId.{CfdpId}
use Rattle.cfdp_c.specs.declared.indications.CfdpIndication.{CfdpIndication}
use Rattle.cfdp_c.specs.declared.decoding.CfdpPdu.{CfdpPdu}

abbrev pub written_id : TransactionId → CfdpId
written_id id = record { source = id.source; number = id.number }

-- ---- indications
abbrev pub of_kind : ℕ → TransactionId → CfdpIndication
of_kind kind id = record {
  id = written_id id;
  size = 0;
  source_len = 0;
  destination_len = 0;
  kind = kind;
  condition = 0;
  delivery = 0;
  status = 0;
}

abbrev pub told_of : Indication → CfdpIndication
told_of (told.Transaction id) = of_kind 1 id
told_of (told.EofSent id) = of_kind 2 id
told_of (told.MetadataRecv id source destination size) =
    record (of_kind 3 id)
    { size = size; source_len = length source; destination_len = length destination }
told_of (told.EofRecv id) = of_kind 4 id
told_of (told.Finished id condition delivery status) =
    record (of_kind 5 id)
    { condition = condition; delivery = delivery_code delivery; status = file_status_code status }
told_of (told.Suspended id condition) = record (of_kind 6 id) { condition = condition }
told_of (told.Resumed id) = of_kind 7 id
told_of (told.Fault id condition) = record (of_kind 8 id) { condition = condition }
told_of (told.Abandoned id condition) = record (of_kind 9 id) { condition = condition }
told_of (told.Progress id octets) = record (of_kind 10 id) { size = octets }

-- the names in it: the name at the sender, and after it the name at the receiver
abbrev pub names_of : Indication → List ℕ
names_of (told.MetadataRecv id source destination size) = source ++ destination
names_of _ = []

-- octets written over the front of a room
abbrev pub over : (octets room : List ℕ) → List ℕ
over octets room = octets ++ drop (length octets) room

abbrev pub TellsIf : Bool → Indication → ℕ → (out_before out_now : CfdpIndication)
    → (names_before names_now : List ℕ) → Type 0
TellsIf true i answer out_before out_now names_before names_now =
    (answer ≡ ok) × (out_now ≡ told_of i) × (names_now ≡ over (names_of i) names_before)
TellsIf false i answer out_before out_now names_before names_now =
    (answer ≡ no_room) × (out_now ≡ out_before) × (names_now ≡ names_before)

-- This indication was reported, if there is one, and its names were copied, if there is room.
abbrev pub Tells : Option Indication → ℕ → (out_before out_now : CfdpIndication)
    → (names_before names_now : List ℕ) → Type 0
Tells None answer out_before out_now names_before names_now =
    (answer ≡ nothing) × (out_now ≡ out_before) × (names_now ≡ names_before)
Tells (Some i) answer out_before out_now names_before names_now =
    TellsIf (nat_le (length (names_of i)) (length names_before)) i answer out_before out_now
    names_before names_now

-- The first indication that is left was dropped, and nothing else changed.
pub record LetsOneGo (old new : StationState) : Type 0 where
  pub entity : new.entity ≡ record old.entity {
    state = with_table old.entity.state (without_told 1 old.entity.state.table);
  }
  pub link : KeepsLink old new

-- ---- PDUs
abbrev pub bit : Bool → ℕ
bit true = 1
bit false = 0

abbrev pub pdu_of_kind : ℕ → Header → CfdpPdu
pdu_of_kind kind h = record {
  id = written_id h.id;
  destination = h.destination;
  offset = 0;
  size = 0;
  data_len = 0;
  pairs = 0;
  checksum = 0;
  kind = kind;
  toward_sender = direction_bit h.direction;
  condition = 0;
  delivery = 0;
  status = 0;
  acknowledged = 0;
  checksum_kind = 0;
  keep_alive = 0;
  large = bit h.large;
  crc = bit h.crc;
}

abbrev pub said_by : Header → Content → CfdpPdu
said_by h (FileData offset bytes) = record
    (pdu_of_kind 0 h) { offset = offset; data_len = length bytes }
said_by h (Eof condition checksum size tlvs) =
    record (pdu_of_kind 4 h) { condition = condition; checksum = checksum; size = size }
said_by h (Finished condition delivery status tlvs) =
    record (pdu_of_kind 5 h)
    { condition = condition; delivery = delivery_code delivery; status = file_status_code status }
said_by h (Ack acknowledged condition status) =
    record (pdu_of_kind 6 h) {
      acknowledged = acknowledged_code acknowledged;
      condition = condition;
      status = transaction_status_code status;
    }
said_by h (Metadata checksum_kind size source destination options) =
    record (pdu_of_kind 7 h) { checksum_kind = checksum_kind; size = size }
said_by h (Nak start end pairs) =
    record (pdu_of_kind 8 h) { offset = start; size = end; pairs = length pairs }
said_by h (Prompt keep_alive) = record (pdu_of_kind 9 h) { keep_alive = bit keep_alive }
said_by h (KeepAlive progress) = record (pdu_of_kind 12 h) { offset = progress }
