-- What is wrong with octets that are no PDU: the first fault, in the order in which faults are
-- reported.
use Rattle.std.specs.Prelude.{ℕ, ◌+◌, ◌-◌, ◌*◌, ◌%◌, Bool, false, List, [], ◌∷◌, length, drop, Option, Some, None, is_none, ◌==◌, nat_lt, nat_le, not, ◌&&◌, if◌then◌else◌, codes}
use Rattle.cfd_bits.specs.Field.{field}
use Rattle.cfdp_header.specs.declared.error.HeaderError.{HeaderError}
use Rattle.cfdp_header.specs.Crc.{before_crc}
use Rattle.cfdp_header.specs.Header.{header_fault, header_len_told, refusal_number, refusal_name}
use Rattle.cfdp_directives.specs.declared.pdu.error.PduError.{PduError}
use Rattle.cfdp_directives.specs.declared.pdu.error.PduError.TheVariants.{Header, Directive, Truncated, Trailing, Tlv, Condition}
use Rattle.cfdp_directives.specs.Pdu.Codes.{file_size_octets, is_refused}
use Rattle.cfdp_directives.specs.Pdu.Tlv.{tlvs_of}
use Rattle.cfdp_directives.specs.Pdu.Grammar.{skipped}

-- true if an octet of length and that many octets stand at the front
unfoldable pub has_lv : List ℕ → Bool
has_lv [] = false
has_lv (len ∷ rest) = nat_le len (length rest)

-- what stands after them
unfoldable pub after_lv : List ℕ → List ℕ
after_lv [] = []
after_lv (len ∷ rest) = drop len rest

abbrev pub file_data_fault : ℕ → Bool → List ℕ → Option PduError
file_data_fault w segment_metadata d =
    if nat_lt (length d) (skipped segment_metadata d + w) then Some Truncated else None

abbrev pub metadata_fault : ℕ → List ℕ → Option PduError
metadata_fault w d =
    if nat_lt (length d) (2 + w) then Some Truncated
    else if not (has_lv (drop (2 + w) d)) then Some Truncated
    else if not (has_lv (after_lv (drop (2 + w) d))) then Some Truncated
    else if is_none (tlvs_of (after_lv (after_lv (drop (2 + w) d)))) then Some Tlv
    else None

abbrev pub eof_fault : ℕ → List ℕ → Option PduError
eof_fault w d =
    if nat_lt (length d) (6 + w) then Some Truncated
    else if is_refused (field d 8 4) then Some Condition
    else if is_none (tlvs_of (drop (6 + w) d)) then Some Tlv
    else None

abbrev pub finished_fault : List ℕ → Option PduError
finished_fault d =
    if nat_lt (length d) 2 then Some Truncated
    else if is_refused (field d 8 4) then Some Condition
    else if is_none (tlvs_of (drop 2 d)) then Some Tlv
    else None

abbrev pub ack_fault : List ℕ → Option PduError
ack_fault d =
    if nat_lt (length d) 3 then Some Truncated
    else if not (field d 8 4 == 4) && not (field d 8 4 == 5) then Some Directive
    else if is_refused (field d 16 4) then Some Condition
    else if not (length d == 3) then Some Trailing
    else None

abbrev pub nak_fault : ℕ → List ℕ → Option PduError
nak_fault w d =
    if nat_lt (length d) (1 + 2 * w) then Some Truncated
    else if not ((length d - (1 + 2 * w)) % (2 * w) == 0) then Some Truncated
    else None

-- of a directive that has this many octets, Prompt or Keep Alive
abbrev pub length_fault : ℕ → List ℕ → Option PduError
length_fault len d =
    if nat_lt (length d) len then Some Truncated
    else if not (length d == len) then Some Trailing
    else None

-- of a directive: if its code isn't known, it is refused whatever follows
abbrev pub directive_fault : ℕ → List ℕ → Option PduError
directive_fault w d =
    if nat_lt (length d) 1 then Some Truncated
    else if field d 0 8 == 4 then eof_fault w d
    else if field d 0 8 == 5 then finished_fault d
    else if field d 0 8 == 6 then ack_fault d
    else if field d 0 8 == 7 then metadata_fault w d
    else if field d 0 8 == 8 then nak_fault w d
    else if field d 0 8 == 9 then length_fault 2 d
    else if field d 0 8 == 12 then length_fault (1 + w) d
    else Some Directive

-- of a data field after a header with this bit of the PDU type
abbrev pub content_fault : ℕ → ℕ → Bool → List ℕ → Option PduError
content_fault w pdu_type segment_metadata d =
    if pdu_type == 1 then file_data_fault w segment_metadata d else directive_fault w d

-- what is wrong with the header comes first
abbrev after_header : Option HeaderError → Option PduError → Option PduError
after_header None next = next
after_header (Some e) next = Some (Header e)

-- what is wrong with octets that are no PDU: the header says how many octets a file-size field has,
-- and whether a CRC ends the data field
abbrev pub pdu_fault : List ℕ → Option PduError
pdu_fault text =
    after_header (header_fault text)
    (content_fault (file_size_octets (field text 7 1 == 1)) (field text 3 1)
    (field text 28 1 == 1)
    (before_crc (field text 6 1 == 1) (drop (header_len_told text) text)))

-- the number of a refusal
abbrev pub pdu_refusal_number : PduError → ℕ
pdu_refusal_number (Header e) = refusal_number e
pdu_refusal_number Directive = 7
pdu_refusal_number Truncated = 8
pdu_refusal_number Trailing = 9
pdu_refusal_number Tlv = 10
pdu_refusal_number Condition = 11

-- its name: if the header is refused, the name of that refusal
abbrev pub pdu_refusal_name : PduError → List ℕ
pdu_refusal_name (Header e) = refusal_name e
pdu_refusal_name Directive = codes "Directive"
pdu_refusal_name Truncated = codes "Truncated"
pdu_refusal_name Trailing = codes "Trailing"
pdu_refusal_name Tlv = codes "Tlv"
pdu_refusal_name Condition = codes "Condition"
