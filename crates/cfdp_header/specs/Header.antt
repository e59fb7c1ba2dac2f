-- The fixed header of a PDU: which octets are which header, and what is wrong with octets that
-- begin with none.
use Rattle.std.specs.Prelude.{◌≡◌, ℕ, ◌+◌, ◌-◌, ◌*◌, ◌^◌, ◌<◌, ◌≤◌, List, ◌++◌, length, Option, Some, None, true, nat_lt, ◌==◌, not, if◌then◌else◌, codes}
use Rattle.cfd_bits.specs.Field.{field, octets, flag}
use Rattle.cfdp_header.specs.Crc.{has_crc}
use Rattle.cfdp_header.specs.declared.value.Direction.{Direction}
use Rattle.cfdp_header.specs.declared.value.Direction.TheVariants.{TowardReceiver, TowardSender}
use Rattle.cfdp_header.specs.declared.value.Header.{Header}
use Rattle.cfdp_header.specs.declared.value.PduType.{PduType}
use Rattle.cfdp_header.specs.declared.value.PduType.TheVariants.{FileDirective, FileData}
use Rattle.cfdp_header.specs.declared.error.HeaderError.{HeaderError}
use Rattle.cfdp_header.specs.declared.error.HeaderError.TheVariants.{Short, Version, BadCrc, Length, Unacknowledged, LargeFile}

-- octets of a header with these widths: four, the source id, the sequence number, the destination
-- id
abbrev pub header_len : ℕ → ℕ → ℕ
header_len id_width number_width = 4 + id_width + number_width + id_width

-- How many octets an entity id or a sequence number may have.
abbrev pub IsWidth : ℕ → Type 0
IsWidth width = (1 ≤ width) × (width ≤ 8)

-- the bit of the PDU type, and the bit of the direction (CCSDS 727.0-B-5, table 5-1)
abbrev pub type_bit : PduType → ℕ
type_bit FileDirective = 0
type_bit FileData = 1

abbrev pub direction_bit : Direction → ℕ
direction_bit TowardReceiver = 0
direction_bit TowardSender = 1

-- The octets are this header, and after it as many octets as its length says. These end in a CRC if
-- its flag says so (CCSDS 727.0-B-5, 5.1, table 5-1, and 4.1). Bit 24, segmentation control, is in
-- no line: any value of it is accepted.
pub record SpellsHeader (h : Header) (text : List ℕ) : Type 0 where
  pub size : length text ≡ header_len h.id_width h.number_width + h.length
  pub version : field text 0 3 ≡ 1
  pub pdu_type : field text 3 1 ≡ type_bit h.pdu_type
  pub direction : field text 4 1 ≡ direction_bit h.direction
  pub acknowledged : field text 5 1 ≡ 0
  pub crc : field text 6 1 ≡ flag h.crc
  pub large : field text 7 1 ≡ flag h.large
  pub length_field : field text 8 16 ≡ h.length
  pub id_width : field text 25 3 + 1 ≡ h.id_width
  pub segment_metadata : field text 28 1 ≡ flag h.segment_metadata
  pub number_width : field text 29 3 + 1 ≡ h.number_width
  pub source : field text 32 (8 * h.id_width) ≡ h.id.source
  pub number : field text (32 + 8 * h.id_width) (8 * h.number_width) ≡ h.id.number
  pub destination : field text (32 + 8 * h.id_width + 8 * h.number_width) (8 * h.id_width)
      ≡ h.destination
  pub check : has_crc h.crc (header_len h.id_width h.number_width) text ≡ true

-- the octets of the header, as the fourth octet gives them
abbrev pub header_len_told : List ℕ → ℕ
header_len_told text = header_len (field text 25 3 + 1) (field text 29 3 + 1)

-- what is wrong with octets that are no header and its data field: the first cause in this order,
-- or none. LargeFile is never a cause.
abbrev pub header_fault : List ℕ → Option HeaderError
header_fault text =
    if nat_lt (length text) 4 then Some Short
    else if not (field text 0 3 == 1) then Some Version
    else if not (field text 5 1 == 0) then Some Unacknowledged
    else if nat_lt (length text) (header_len_told text) then Some Short
    else if not (length text == header_len_told text + field text 8 16) then Some Length
    else if not (has_crc (field text 6 1 == 1) (header_len_told text) text) then Some BadCrc
    else None

-- A number can be written as an entity id or a sequence number of so many octets.
abbrev pub FitsWidth : ℕ → ℕ → Type 0
FitsWidth value width = IsWidth width × (value < 256 ^ width)

-- The header can be written: each number must fit its field.
pub record FitsHeader (h : Header) : Type 0 where
  pub id_width : IsWidth h.id_width
  pub number_width : IsWidth h.number_width
  pub length : h.length < 2 ^ 16
  pub source : h.id.source < 256 ^ h.id_width
  pub number : h.id.number < 256 ^ h.number_width
  pub destination : h.destination < 256 ^ h.id_width

-- the four octets that every header has
abbrev pub fixed_octets : Header → List ℕ
fixed_octets h =
    octets 1 (32 + 16 * type_bit h.pdu_type + 8 * direction_bit h.direction + 2 * flag h.crc
    + flag h.large)
    ++ octets 2 h.length
    ++ octets 1 (16 * (h.id_width - 1) + 8 * flag h.segment_metadata + (h.number_width - 1))

-- the written spelling of a header: spare bits are 0
abbrev pub header_octets : Header → List ℕ
header_octets h =
    fixed_octets h
    ++ octets h.id_width h.id.source
    ++ octets h.number_width h.id.number
    ++ octets h.id_width h.destination

-- the number of a refusal
abbrev pub refusal_number : HeaderError → ℕ
refusal_number Short = 1
refusal_number Version = 2
refusal_number BadCrc = 3
refusal_number Length = 4
refusal_number Unacknowledged = 5
refusal_number LargeFile = 6

-- its name
abbrev pub refusal_name : HeaderError → List ℕ
refusal_name Short = codes "Short"
refusal_name Version = codes "Version"
refusal_name BadCrc = codes "BadCrc"
refusal_name Length = codes "Length"
refusal_name Unacknowledged = codes "Unacknowledged"
refusal_name LargeFile = codes "LargeFile"
