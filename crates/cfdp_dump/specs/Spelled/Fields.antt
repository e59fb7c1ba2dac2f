-- What octets spell, field by field: a line for each field, with its name, its value, and the
-- section that describes it, of CCSDS 727.0-B-5 (CFDP) or of 732.0-B-4 (AOS).
use Rattle.std.specs.Prelude.{ℕ, ◌/◌, ◌%◌, ◌==◌, Bool, false, List, ◌++◌, codes, decimal, drop, get_or, length, Option, Some, None, if◌then◌else◌}
use Rattle.std.specs.List.{flat_map}
use Rattle.cfdp_header.specs.Header.{header_len, type_bit, direction_bit}
use Rattle.cfdp_header.specs.declared.value.PduType.{PduType}
use Rattle.cfdp_header.specs.declared.value.PduType.TheVariants.{FileDirective, FileData}
use Rattle.cfdp_header.specs.declared.value.Direction.{Direction}
use Rattle.cfdp_header.specs.declared.value.Direction.TheVariants.{TowardReceiver, TowardSender}
use Rattle.cfdp_header.specs.declared.value.Header.{Header}
use Rattle.cfdp_directives.specs.Pdu.Codes.{acknowledged_code, delivery_code, file_status_code, transaction_status_code}
use Rattle.cfdp_directives.specs.declared.pdu.codes.Acknowledged.{Acknowledged}
use Rattle.cfdp_directives.specs.declared.pdu.codes.Acknowledged.TheVariants.{Eof, Finished}
use Rattle.cfdp_directives.specs.declared.pdu.codes.TransactionStatus.{TransactionStatus}
use Rattle.cfdp_directives.specs.declared.pdu.codes.TransactionStatus.TheVariants.{Undefined, Active, Terminated, Unrecognized}
use Rattle.cfdp_directives.specs.declared.pdu.content.Pdu as pdus
use Rattle.cfdp_directives.specs.declared.pdu.content.Pdu.TheVariants as pdu
use Rattle.cfdp_directives.specs.Pdu.Tlv.{Tlv, location_of}
use Rattle.aos_frame.specs.declared.header.FrameHeader.{FrameHeader}
use Rattle.cfdp_dump.specs.Spelled.Lines.{hex_octet_text, options_of}
use Rattle.cfdp_report.specs.Report.Name.{name_text}
use Rattle.cfdp_report.specs.Numbers.{hex_number_text}
use Rattle.cfdp_dump.specs.Spelled.Shape.{crc_octets}
use Rattle.cfdp_report.specs.Report.Wording.{delivery_word, status_word}

-- ---- a field

-- a text
unfoldable pub text_field : (name value section : List ℕ) → List ℕ
text_field name value section =
    name ++ (codes ": " ++ (value ++ (codes " (" ++ (section ++ codes ")\n"))))

-- a number
unfoldable pub number_field : (name : List ℕ) (value : ℕ) (section : List ℕ) → List ℕ
number_field name value section =
    name ++ (codes ": " ++ (decimal value ++ (codes " (" ++ (section ++ codes ")\n"))))

-- a number with what it means
unfoldable pub code_field : (name : List ℕ) (value : ℕ) (meaning section : List ℕ) → List ℕ
code_field name value meaning section =
    name ++ (codes ": " ++ (decimal value ++ (codes " " ++ (meaning ++ (codes " (" ++ (section
    ++ codes ")\n"))))))

-- a number of octets
abbrev pub octets_field : (name : List ℕ) (value : ℕ) (section : List ℕ) → List ℕ
octets_field name value section = code_field name value (codes "octets") section

-- whether a flag is set
abbrev pub flag_word : Bool → List ℕ
flag_word set = if set then codes "yes" else codes "no"

abbrev pub flag_field : (name : List ℕ) (set : Bool) (section : List ℕ) → List ℕ
flag_field name set section = text_field name (flag_word set) section

-- octets in hexadecimal digits
unfoldable pub filled_field : (name octets section : List ℕ) → List ℕ
filled_field name octets section =
    name ++ (codes ": " ++ (flat_map hex_octet_text octets ++ (codes " (" ++ (section
    ++ codes ")\n"))))

-- the same, if there are some
abbrev pub part_field : (name octets section : List ℕ) → List ℕ
part_field name octets section = if length octets == 0 then codes ""
    else filled_field name octets section

-- the octet at an index, or 0 after the end
abbrev pub octet_at : List ℕ → ℕ → ℕ
octet_at octets at = get_or octets at 0

-- ---- the header of a PDU (CFDP 5.1)

abbrev pub type_word : PduType → List ℕ
type_word FileDirective = codes "directive"
type_word FileData = codes "file data"

abbrev pub direction_word : Direction → List ℕ
direction_word TowardReceiver = codes "toward receiver"
direction_word TowardSender = codes "toward sender"

-- the fields that every header has in its first four octets, segmentation control as the octets
-- have it
abbrev pub fixed_fields : Header → (octets : List ℕ) → List ℕ
fixed_fields h octets =
    number_field (codes "version") 1 (codes "CFDP 5.1")
    ++ (code_field (codes "PDU type") (type_bit h.pdu_type) (type_word h.pdu_type)
    (codes "CFDP 5.1")
    ++ (code_field
    (codes "direction") (direction_bit h.direction) (direction_word h.direction) (codes "CFDP 5.1")
    ++ (code_field (codes "transmission mode") 0 (codes "acknowledged") (codes "CFDP 5.1")
    ++ (flag_field (codes "CRC") h.crc (codes "CFDP 5.1")
    ++ (flag_field (codes "large file") h.large (codes "CFDP 5.1")
    ++ (octets_field (codes "data field") h.length (codes "CFDP 5.1")
    ++ number_field (codes "segmentation control") (octet_at octets 3 / 128)
    (codes "CFDP 5.1")))))))

-- the lengths of its ids, the flag between, and the ids
abbrev pub id_fields : Header → List ℕ
id_fields h =
    octets_field (codes "entity id length") h.id_width (codes "CFDP 5.1")
    ++ (flag_field (codes "segment metadata") h.segment_metadata (codes "CFDP 5.1")
    ++ (octets_field (codes "sequence number length") h.number_width (codes "CFDP 5.1")
    ++ (number_field (codes "source entity") h.id.source (codes "CFDP 5.1")
    ++ (number_field (codes "sequence number") h.id.number (codes "CFDP 5.1")
    ++ number_field (codes "destination entity") h.destination (codes "CFDP 5.1")))))

-- ---- the data field of a PDU

-- which directive it is (CFDP 5.2.1, table 5-4)
abbrev pub directive_field : (code : ℕ) (name : List ℕ) → List ℕ
directive_field code name = code_field (codes "directive") code name (codes "CFDP 5.2.1")

-- segment metadata before file data (CFDP 5.3), if the header says that there are some; all of this
-- stands in the first octet of the data field
abbrev pub segment_fields : Bool → (first : ℕ) → List ℕ
segment_fields present first =
    if present
    then number_field (codes "record continuation state") (first / 64) (codes "CFDP 5.3")
    ++ octets_field (codes "segment metadata length") (first % 64) (codes "CFDP 5.3")
    else codes ""

-- a range that a NAK asks for (CFDP 5.2.6)
unfoldable pub range_field : ℕ × ℕ → List ℕ
range_field range =
    codes "segment request: " ++ (decimal range.0 ++ (codes "-" ++ (decimal range.1
    ++ codes " (CFDP 5.2.6)\n")))

-- an option, its value in hexadecimal digits (CFDP 5.1.9 and 5.4)
unfoldable pub option_field : Tlv → List ℕ
option_field t =
    codes "option: type " ++ (hex_octet_text t.kind ++ (codes " value "
    ++ (flat_map hex_octet_text t.value ++ codes " (CFDP 5.4)\n")))

-- the entity at which a fault was found, if one is named (CFDP 5.4.6)
abbrev pub location_field : Option ℕ → List ℕ
location_field None = codes ""
location_field (Some entity) = number_field (codes "fault location") entity (codes "CFDP 5.4.6")

-- the options of a PDU, the entity that the first fault location names first
abbrev pub options_fields : pdus.Pdu → List ℕ
options_fields p =
    location_field (location_of (options_of p))
    ++ flat_map option_field (options_of p)

abbrev pub acknowledged_word : Acknowledged → List ℕ
acknowledged_word Eof = codes "EOF"
acknowledged_word Finished = codes "Finished"

-- what an ACK says of its transaction (CFDP 5.2.4)
abbrev pub transaction_word : TransactionStatus → List ℕ
transaction_word Undefined = codes "undefined"
transaction_word Active = codes "active"
transaction_word Terminated = codes "terminated"
transaction_word Unrecognized = codes "unrecognized"

-- a Prompt, and what it asks for (CFDP 5.2.7)
abbrev pub response_field : (keep_alive : Bool) → List ℕ
response_field keep_alive =
    if keep_alive
    then code_field (codes "response required") 1 (codes "Keep Alive") (codes "CFDP 5.2.7")
    else code_field (codes "response required") 0 (codes "NAK") (codes "CFDP 5.2.7")

abbrev pub prompt_fields : (keep_alive : Bool) → List ℕ
prompt_fields keep_alive =
    directive_field 9 (codes "Prompt")
    ++ response_field keep_alive

-- a file name (CFDP 5.2.5)
unfoldable pub name_field : (what name : List ℕ) → List ℕ
name_field what name =
    what ++ (codes ": " ++ (name_text name ++ codes " (CFDP 5.2.5)\n"))

-- both names of a file
abbrev pub name_fields : (source destination : List ℕ) → List ℕ
name_fields source destination =
    name_field (codes "source file name") source
    ++ name_field (codes "destination file name") destination

-- a file's checksum (CFDP 5.2.2)
unfoldable pub checksum_field : ℕ → List ℕ
checksum_field checksum =
    codes "file checksum: " ++ (hex_number_text checksum ++ codes " (CFDP 5.2.2)\n")

-- what an ACK, a NAK, a Prompt or a Keep Alive says. The subtype of an ACK isn't kept: it is the
-- lower half of the second octet of the data field.
abbrev pub short_fields : pdus.Pdu → (rest : List ℕ) → List ℕ
short_fields (pdu.Ack of condition status) rest =
    directive_field 6 (codes "ACK")
    ++ (code_field
    (codes "directive acknowledged") (acknowledged_code of) (acknowledged_word of)
    (codes "CFDP 5.2.4")
    ++ (number_field (codes "directive subtype") (octet_at rest 1 % 16) (codes "CFDP 5.2.4")
    ++ (number_field (codes "condition code") condition (codes "CFDP 5.2.4")
    ++ code_field
    (codes "transaction status") (transaction_status_code status) (transaction_word status)
    (codes "CFDP 5.2.4"))))
short_fields (pdu.Nak start end pairs) rest =
    directive_field 8 (codes "NAK")
    ++ (number_field (codes "start of scope") start (codes "CFDP 5.2.6")
    ++ (number_field (codes "end of scope") end (codes "CFDP 5.2.6")
    ++ flat_map range_field pairs))
short_fields (pdu.Prompt keep_alive) rest = prompt_fields keep_alive
short_fields (pdu.KeepAlive progress) rest =
    directive_field 12 (codes "Keep Alive")
    ++ number_field (codes "progress") progress (codes "CFDP 5.2.8")
short_fields _ rest = codes ""

-- what an EOF or a Finished says, except for its options
abbrev pub end_fields : pdus.Pdu → (rest : List ℕ) → List ℕ
end_fields (pdu.Eof condition checksum size tlvs) rest =
    directive_field 4 (codes "EOF")
    ++ (number_field (codes "condition code") condition (codes "CFDP 5.2.2")
    ++ (checksum_field checksum
    ++ number_field (codes "file size") size (codes "CFDP 5.2.2")))
end_fields (pdu.Finished condition delivery status tlvs) rest =
    directive_field 5 (codes "Finished")
    ++ (number_field (codes "condition code") condition (codes "CFDP 5.2.3")
    ++ (code_field
    (codes "delivery code") (delivery_code delivery) (delivery_word delivery) (codes "CFDP 5.2.3")
    ++ code_field (codes "file status") (file_status_code status) (status_word status)
    (codes "CFDP 5.2.3")))
end_fields p rest = short_fields p rest

-- what any PDU says, except for its options. Whether a Metadata requests closure isn't kept: it is
-- the second bit of the second octet of the data field.
abbrev pub content_fields : (segmented : Bool) → pdus.Pdu → (rest : List ℕ) → List ℕ
content_fields segmented (pdu.FileData offset bytes) rest =
    segment_fields segmented (octet_at rest 0)
    ++ (number_field (codes "offset") offset (codes "CFDP 5.3")
    ++ octets_field (codes "file data") (length bytes.now) (codes "CFDP 5.3"))
content_fields segmented (pdu.Metadata kind size source destination options) rest =
    directive_field 7 (codes "Metadata")
    ++ (flag_field (codes "closure requested") (octet_at rest 1 / 64 % 2 == 1) (codes "CFDP 5.2.5")
    ++ (number_field (codes "checksum type") kind (codes "CFDP 5.2.5")
    ++ (number_field (codes "file size") size (codes "CFDP 5.2.5")
    ++ name_fields source.now destination.now)))
content_fields segmented p rest = end_fields p rest

-- the fields of a PDU, in the order of its octets, and its CRC (CFDP 4.1), if it has one
abbrev pub pdu_fields : Header → pdus.Pdu → (octets : List ℕ) → List ℕ
pdu_fields h p octets =
    fixed_fields h octets
    ++ (id_fields h
    ++ (content_fields h.segment_metadata p (drop (header_len h.id_width h.number_width) octets)
    ++ (options_fields p
    ++ part_field (codes "PDU CRC") (crc_octets h octets) (codes "CFDP 4.1"))))

-- ---- a frame

-- what a first header pointer says (AOS 4.1.4.2.2)
abbrev pub pointer_word : ℕ → List ℕ
pointer_word pointer =
    if pointer == 2047 then codes "no packet begins here"
    else if pointer == 2046 then codes "idle data only"
    else codes "octets before a packet begins"

-- whose a frame is: the first of the fields of its primary header (AOS 4.1.2)
abbrev pub channel_fields : FrameHeader → List ℕ
channel_fields h =
    number_field (codes "version") 1 (codes "AOS 4.1.2.2")
    ++ (number_field (codes "spacecraft") h.spacecraft (codes "AOS 4.1.2.2")
    ++ number_field (codes "virtual channel") h.virtual_channel (codes "AOS 4.1.2.3"))

-- the others: its count, and the flags after it
abbrev pub count_fields : FrameHeader → List ℕ
count_fields h =
    number_field (codes "frame count") h.count (codes "AOS 4.1.2.4")
    ++ (flag_field (codes "replay") false (codes "AOS 4.1.2.5")
    ++ flag_field (codes "count cycle in use") h.cycle (codes "AOS 4.1.2.5"))

-- its first header pointer, and the octets of its packet zone (AOS 4.1.4.2)
abbrev pub zone_fields : (pointer zone : ℕ) → List ℕ
zone_fields pointer zone =
    code_field (codes "first header pointer") pointer (pointer_word pointer) (codes "AOS 4.1.4.2")
    ++ octets_field (codes "packet zone") zone (codes "AOS 4.1.4.2")

-- the insert zone before these, if there is one (AOS 4.1.3)
abbrev pub insert_field : (insert : List ℕ) → List ℕ
insert_field insert = part_field (codes "insert zone") insert (codes "AOS 4.1.3")

-- the operational control field and the frame error control field after them, if there are some
-- (AOS 4.1.5, 4.1.6)
abbrev pub behind_fields : (control check : List ℕ) → List ℕ
behind_fields control check =
    part_field (codes "operational control") control (codes "AOS 4.1.5")
    ++ part_field (codes "frame error control") check (codes "AOS 4.1.6")

-- the fields of a frame, in the order of its octets
abbrev pub frame_fields : FrameHeader → (pointer zone : ℕ) → (insert control check : List ℕ)
    → List ℕ
frame_fields h pointer zone insert control check =
    channel_fields h
    ++ (count_fields h
    ++ (insert_field insert ++ (zone_fields pointer zone ++ behind_fields control check)))
