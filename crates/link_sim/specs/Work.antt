-- Proof-only: how much the two stations may still do in a settling, a number that falls with each
-- PDU that is sent or heard. A PDU on its way counts what it may cause if it is heard, and one more
-- for itself; a PDU that is due counts more than it does once it is on its way. `most` is a number
-- that no file's size and no offset held passes.
use Rattle.std.specs.Prelude.{◌≡◌, ℕ, ◌+◌, ◌-◌, ◌*◌, ◌==◌, ◌<◌, ◌≤◌, Bool, true, List, [], ◌∷◌, length, drop, sum_by, Option, Some, None, IfSome, if◌then◌else◌}
use Rattle.std.specs.FinSet as set
use Rattle.cfd_bits.specs.Field.{field}
use Rattle.cfdp_header.specs.Header.{header_len_told}
use Rattle.cfdp_directives.specs.Pdu.Content.{Content, FileData, Metadata, Eof, Finished, Ack, Nak, Prompt, KeepAlive}
use Rattle.cfdp_sender.specs.declared.phase.SenderPhase.{SenderPhase}
use Rattle.cfdp_sender.specs.declared.phase.SenderPhase.TheVariants as sending
use Rattle.cfdp_sender.specs.State.{SenderState}
use Rattle.cfdp_receiver.specs.declared.state.ReceiverPhase.{ReceiverPhase}
use Rattle.cfdp_receiver.specs.declared.state.ReceiverPhase.TheVariants as receiving
use Rattle.cfdp_receiver.specs.State.{ReceiverState}
use Rattle.cfdp_endings.specs.Dues.{count_below}
use Rattle.cfdp_entity.specs.Entity.{EntityState}
use Rattle.cfdp_entity.specs.Seen.{Seen, Sends, Receives}
use Rattle.cfdp_entity.specs.Table.{Entry}
use Rattle.cfdp_directives.specs.Pdu.Codes.{size_limit}
use Rattle.aos_frame.specs.declared.config.Lane.TheVariants.{Directives, Data}
use Rattle.link_sim.specs.OneWay.{OneWayState}
use Rattle.link_sim.specs.World.State.{WorldState, on_way_from, way_from}
use Rattle.station_pair.specs.declared.side.Side.{Side}
use Rattle.station_pair.specs.declared.side.Side.TheVariants.{One, Two}

-- ---- a PDU on its way
-- A NAK: each offset below `most` may be asked for, and Metadata. File data and Metadata that are
-- due count 7.
abbrev pub nak_work : ℕ → ℕ
nak_work most = 7 * most + 8

-- A NAK that is due from an offset on: each one that is sent moves the offset on, except for the
-- last.
unfoldable pub nak_due_work : ℕ → ℕ → ℕ
nak_due_work most from = (most - from + 1) * (nak_work most + 1)

-- what it may cause at a record, and 1 for itself: an EOF an ACK (2) and a NAK, a Finished an ACK,
-- a
-- Prompt a NAK or a Keep Alive (2)
abbrev pub heard_work : ℕ → Content → ℕ
heard_work most (FileData offset bytes) = 1
heard_work most (Metadata kind size source destination options) = 1
heard_work most (Eof condition checksum size tlvs) = nak_due_work most 0 + 3
heard_work most (Finished condition delivery status tlvs) = 3
heard_work most (Ack of condition status) = 1
heard_work most (Nak start end pairs) = nak_work most
heard_work most (Prompt keep_alive) = nak_due_work most 0 + 3
heard_work most (KeepAlive progress) = 1

-- a receiver that it may open counts 5
abbrev pub opening_work : Content → ℕ
opening_work (FileData offset bytes) = 5
opening_work (Metadata kind size source destination options) = 5
opening_work (Eof condition checksum size tlvs) = 5
opening_work _ = 0

abbrev pub content_work : ℕ → Content → ℕ
content_work most v = heard_work most v + opening_work v

-- ---- a record
abbrev pub ack_work : Option ℕ → ℕ
ack_work (Some condition) = 2
ack_work None = 0

abbrev pub prompt_work : ℕ → Option Bool → ℕ
prompt_work most (Some keep_alive) = nak_due_work most 0 + 4
prompt_work most None = 0

abbrev pub eof_due_work : ℕ → ℕ
eof_due_work most = nak_due_work most 0 + 9

-- an EOF that is due, or that may still be
abbrev pub eof_work : ℕ → (due taken : Bool) → ℕ
eof_work most due taken =
    if due then eof_due_work most else if taken then 0 else eof_due_work most

-- what is due of a file that is sent; an EOF that cancels may come on top
abbrev pub file_work : ℕ → SenderState → ℕ
file_work most x = prompt_work most x.prompt_due + (if x.metadata_due then 7 else 0)
    + 7 * count_below x.asked x.size + 7 * (x.size - x.sent)
    + eof_work most x.eof_due x.eof_taken + eof_due_work most

abbrev pub sending_work : SenderPhase → (file eof : ℕ) → ℕ
sending_work sending.Sending file eof = file
sending_work sending.Cancelling file eof = eof
sending_work sending.Closed file eof = 0

abbrev pub sender_work : ℕ → SenderState → ℕ
sender_work most x = ack_work x.ack_due
    + sending_work x.phase (file_work most x) (if x.eof_due then eof_due_work most else 0)

abbrev pub cursor_work : ℕ → Option ℕ → ℕ
cursor_work most (Some from) = nak_due_work most from
cursor_work most None = 0

-- A Finished that is due counts 4, as it counts 3 on its way. A receiver that will finish counts 5.
abbrev pub receiving_work : ReceiverPhase → (asks : ℕ) → (finished_due : Bool) → ℕ
receiving_work receiving.Receiving asks finished_due = asks + 5
receiving_work receiving.Finishing asks finished_due = if finished_due then 4 else 0
receiving_work receiving.Closed asks finished_due = 0

abbrev pub receiver_work : ℕ → ReceiverState → ℕ
receiver_work most r = ack_work r.ack_due
    + receiving_work r.phase
    (cursor_work most r.nak_cursor + (if r.keep_alive_due then 2 else 0)) r.finished_due

abbrev pub seen_work : ℕ → Seen → ℕ
seen_work most (Sends x) = sender_work most x
seen_work most (Receives r m) = receiver_work most r

abbrev pub entry_work : ℕ → Entry → ℕ
entry_work most e = seen_work most e.1

-- ---- an entity: all its records, and 2 for each acknowledgement of a transaction without one
unfoldable pub entity_work : ℕ → EntityState → ℕ
entity_work most e = sum_by (entry_work most) e.table.records + 2 * length e.strays

-- ---- the PDUs on their way, by their octets
-- by the code of a directive (CCSDS 727.0-B-5, table 5-4)
abbrev pub code_work : ℕ → ℕ → ℕ
code_work most code =
    if code == 4 then nak_due_work most 0 + 8
    else if code == 5 then 3
    else if code == 7 then 6
    else if code == 8 then nak_work most
    else if code == 9 then nak_due_work most 0 + 3
    else 1

unfoldable pub text_work : ℕ → List ℕ → ℕ
text_work most text =
    if field text 3 1 == 1 then 6
    else code_work most (field (drop (header_len_told text) text) 0 8)

unfoldable pub texts_work : ℕ → List (List ℕ) → ℕ
texts_work most texts = sum_by (text_work most) texts

-- ---- the bounds that it needs
-- While it receives, no offset that a receiver holds, and no size that it heard, passes `most`.
pub record IsReceiverWithin (most : ℕ) (r : ReceiverState) : Type 0 where
  pub held : (n : ℕ) → set.contains r.held n ≡ true → n < most
  pub ending : r.phase ≡ receiving.Receiving → IfSome r.ending (λ e. e.size ≤ most)

-- A file that is sent has a segment of an octet at least, and isn't larger.
pub record IsSenderWithin (most : ℕ) (x : SenderState) : Type 0 where
  pub segment : 1 ≤ x.segment
  pub size : x.size ≤ most

abbrev pub IsSeenWithin : ℕ → Seen → Type 0
IsSeenWithin most (Sends x) = IsSenderWithin most x
IsSeenWithin most (Receives r m) = IsReceiverWithin most r

unfoldable pub AreWithin : ℕ → List Entry → Type 0
AreWithin most [] = Unit {0}
AreWithin most (e ∷ es) = IsSeenWithin most e.1 × AreWithin most es

-- ---- a world
-- no file's size, and no offset that is held, passes this: the greatest size of a large file
abbrev pub most_offset : ℕ
most_offset = size_limit true

-- what the entities and the PDUs on their way may still do
abbrev pub pdus_left : WorldState → ℕ
pdus_left w = entity_work most_offset w.one.entity.state
    + entity_work most_offset w.two.entity.state
    + texts_work most_offset (on_way_from One w)
    + texts_work most_offset (on_way_from Two w)

-- the octets and frames of a lane: 2 for each octet that waits, and 1 for each frame that does
abbrev pub octets_left : OneWayState → ℕ
octets_left w = 2 * length w.down.waiting + (length w.frames - length w.marks)

-- of both lanes
abbrev pub octets_left_from : Side → WorldState → ℕ
octets_left_from s w = octets_left (way_from s Directives w) + octets_left (way_from s Data w)

-- A PDU that is sent lowers the first number, and raises the others by no more than its packet of
-- 65,542 octets at most may.
unfoldable pub world_work : WorldState → ℕ
world_work w = 131085 * pdus_left w + octets_left_from One w + octets_left_from Two w
