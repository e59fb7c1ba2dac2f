-- What octets spell, as a line.
use Rattle.std.specs.Prelude.{ℕ, ◌/◌, ◌%◌, ◌==◌, ◌||◌, Bool, List, [], ◌∷◌, ◌++◌, codes, decimal, length, if◌then◌else◌, Option, None, Some}
use Rattle.std.specs.List.{flat_map, AllZip}
use Rattle.std.specs.Io.KnownBytes.{Appends}
use Rattle.cfdp_header.specs.declared.value.Direction.{Direction}
use Rattle.cfdp_header.specs.declared.value.Direction.TheVariants.{TowardReceiver, TowardSender}
use Rattle.cfdp_header.specs.declared.value.Header.{Header}
use Rattle.cfdp_header.specs.declared.value.TransactionId.{TransactionId}
use Rattle.cfdp_directives.specs.Pdu.Codes.{acknowledged_code, transaction_status_code}
use Rattle.cfdp_directives.specs.declared.pdu.content.Pdu as pdus
use Rattle.cfdp_directives.specs.declared.pdu.content.Pdu.TheVariants as pdu
use Rattle.cfdp_directives.specs.Pdu.Tlv.{Tlv, location_of}
use Rattle.aos_frame.specs.declared.header.FrameHeader.{FrameHeader}
use Rattle.cfdp_report.specs.Numbers.{hex_number_text}
use Rattle.cfdp_report.specs.Report.Name.{hex_digit, name_text}
use Rattle.cfdp_report.specs.Report.Wording.{id_text, delivery_word, status_word}

-- the word for this kind of PDU
abbrev pub pdu_word : pdus.Pdu → List ℕ
pdu_word (pdu.FileData offset bytes) = codes "data"
pdu_word (pdu.Metadata kind size source destination options) = codes "metadata"
pdu_word (pdu.Eof condition checksum size tlvs) = codes "eof"
pdu_word (pdu.Finished condition delivery status tlvs) = codes "finished"
pdu_word (pdu.Ack of condition status) = codes "ack"
pdu_word (pdu.Nak start end pairs) = codes "nak"
pdu_word (pdu.Prompt keep_alive) = codes "prompt"
pdu_word (pdu.KeepAlive progress) = codes "keepalive"

-- a range that a NAK asks for: its start and its end
abbrev pub range_text : ℕ × ℕ → List ℕ
range_text range = codes " " ++ (decimal range.0 ++ (codes "-" ++ decimal range.1))

-- what a PDU says, except for its options: numbers in decimal digits, the checksum in hexadecimal
-- ones, names as in the report
abbrev pub fields_text : pdus.Pdu → List ℕ
fields_text (pdu.FileData offset bytes) = decimal offset ++ codes " " ++ decimal (length bytes.now)
fields_text (pdu.Metadata kind size source destination options) =
    decimal kind ++ codes " " ++ decimal size ++ codes " " ++ name_text source.now ++ codes " "
    ++ name_text destination.now
fields_text (pdu.Eof condition checksum size tlvs) = decimal condition ++ codes " "
    ++ hex_number_text checksum ++ codes " " ++ decimal size
fields_text (pdu.Finished condition delivery status tlvs) = decimal condition ++ codes " "
    ++ delivery_word delivery ++ codes " " ++ status_word status
fields_text (pdu.Ack of condition status) =
    decimal (acknowledged_code of) ++ codes " " ++ decimal condition ++ codes " "
    ++ decimal (transaction_status_code status)
fields_text (pdu.Nak start end pairs) = decimal start ++ codes " " ++ decimal end
    ++ flat_map range_text pairs
fields_text (pdu.Prompt keep_alive) = if keep_alive then codes "keep" else codes "nak"
fields_text (pdu.KeepAlive progress) = decimal progress

-- a PDU of this transaction
abbrev pub pdu_text : TransactionId → pdus.Pdu → List ℕ
pdu_text id p = pdu_word p ++ codes " " ++ id_text id ++ codes " " ++ fields_text p

-- ---- what a long line has after that

-- the options of a PDU: Metadata (CCSDS 727.0-B-5, 5.2.5), EOF (5.2.2) and Finished (5.2.3) may
-- have some
abbrev pub options_of : pdus.Pdu → List Tlv
options_of (pdu.Metadata kind size source destination options) = options
options_of (pdu.Eof condition checksum size tlvs) = tlvs
options_of (pdu.Finished condition delivery status tlvs) = tlvs
options_of _ = []

-- an octet as two upper-case hexadecimal digits
abbrev pub hex_octet_text : ℕ → List ℕ
hex_octet_text octet = hex_digit (octet / 16) ∷ hex_digit (octet % 16) ∷ []

-- an option (5.1.9): its type, and its value
abbrev pub option_text : Tlv → List ℕ
option_text t = codes " tlv " ++ hex_octet_text t.kind ++ codes ":"
    ++ flat_map hex_octet_text t.value

-- the entity at which a fault was found (5.4.6), if one is named
abbrev pub location_text : Option ℕ → List ℕ
location_text None = []
location_text (Some entity) = codes " fault-location " ++ decimal entity

-- the end of the transaction that a PDU goes to (5.1, table 5-1, direction)
abbrev pub end_word : Direction → List ℕ
end_word TowardSender = codes "sender"
end_word TowardReceiver = codes "receiver"

-- whether file-size fields have 8 octets (5.1, table 5-1, large file flag)
abbrev pub large_word : Bool → List ℕ
large_word large = if large then codes " large" else codes ""

-- which end the PDU goes to, which entity receives the file, whether that is large, and the options
abbrev pub long_text : Header → pdus.Pdu → List ℕ
long_text h p =
    codes " toward " ++ end_word h.direction ++ codes " destination " ++ decimal h.destination
    ++ large_word h.large ++ location_text (location_of (options_of p))
    ++ flat_map option_text (options_of p)

-- a frame with this header and first header pointer
abbrev pub frame_text : FrameHeader → ℕ → List ℕ
frame_text h pointer =
    codes "frame " ++ decimal h.spacecraft ++ codes " " ++ decimal h.virtual_channel ++ codes " "
    ++ decimal h.count ++ codes " " ++ decimal pointer

-- the lane of a virtual channel: scripts, and stations that aren't set to others, send directives
-- on channels 5 and 6, and file data on 7 and 8
abbrev pub lane_word : ℕ → List ℕ
lane_word channel =
    if channel == 5 || channel == 6 then codes " dir"
    else if channel == 7 || channel == 8 then codes " data"
    else codes ""

-- octets of a part in hexadecimal digits after a word, if there are some
abbrev pub part_text : (word octets : List ℕ) → List ℕ
part_text word octets = if length octets == 0 then codes ""
    else word ++ flat_map hex_octet_text octets

-- the insert zone, the operational control field and the frame error control field of a frame
-- (732.0-B-4, 4.1.3, 4.1.5, 4.1.6), if it has them
abbrev pub parts_text : (insert control check : List ℕ) → List ℕ
parts_text insert control check =
    part_text (codes " insert ") insert
    ++ (part_text (codes " control ") control ++ part_text (codes " check ") check)

-- whether the count has 28 bits (732.0-B-4, 4.1.2.5, usage flag of the count cycle)
abbrev pub cycle_word : Bool → List ℕ
cycle_word cycle = if cycle then codes " cycle" else codes ""

-- a text as a line
abbrev pub as_line : List ℕ → List ℕ
as_line text = text ++ 10 ∷ []

-- One line was written, and its text is such.
pub record WritesLine (P : List ℕ → Type 0) (old new : Option (List ℕ)) : Type 0 where
  pub text : List ℕ
  pub such : P text
  pub written : Appends old new (as_line text)

-- For each of these one line was written, in order, whose text belongs to it.
pub record WritesLines {A : Type 0} (P : A → List ℕ → Type 0) (told : List A)
    (old new : Option (List ℕ)) : Type 0 where
  pub texts : List (List ℕ)
  pub each : AllZip P told texts
  pub written : Appends old new (flat_map as_line texts)
