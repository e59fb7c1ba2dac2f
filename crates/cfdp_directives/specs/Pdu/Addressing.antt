-- The header of each PDU of a transaction, from what they have in common.
use Rattle.std.specs.Prelude.{ℕ, ◌+◌, ◌^◌, ◌<◌, Bool, false}
use Rattle.cfdp_header.specs.Crc.{crc_len}
use Rattle.cfdp_header.specs.declared.value.Direction.{Direction}
use Rattle.cfdp_header.specs.declared.value.Header.{Header}
use Rattle.cfdp_header.specs.declared.value.PduType.{PduType}
use Rattle.cfdp_header.specs.declared.value.TransactionId.{TransactionId}
use Rattle.cfdp_header.specs.Header.{IsWidth, header_len}
use Rattle.cfdp_directives.specs.declared.pdu.addressing.Addressing.{Addressing}
use Rattle.cfdp_directives.specs.Pdu.Codes.{file_size_octets}
use Rattle.cfdp_directives.specs.Pdu.Content.{Content, pdu_type_of}
use Rattle.cfdp_directives.specs.Pdu.Written.{content_len}
use Rattle.cfdp_directives.specs.Pdu.Direction.{direction_of}

-- a header with this large file flag, PDU type, direction and length, which counts a CRC
abbrev pub header_by : Addressing → Bool → PduType → Direction → ℕ → Header
header_by a large pdu_type direction length = record {
  pdu_type = pdu_type;
  direction = direction;
  crc = a.crc;
  large = large;
  length = length;
  segment_metadata = false;
  id_width = a.id_width;
  number_width = a.number_width;
  id = a.id;
  destination = a.destination;
}

-- octets of the data field of a PDU, its CRC too
abbrev pub data_field_len : Addressing → Bool → Content → ℕ
data_field_len a large v = content_len (file_size_octets large) v + crc_len a.crc

-- the header of a PDU that says this, with this large file flag
abbrev pub header_of : Addressing → Bool → Content → Header
header_of a large v = header_by a large (pdu_type_of v) (direction_of v) (data_field_len a large v)

-- octets of a file data PDU before its data
abbrev pub data_front_len : Addressing → Bool → ℕ
data_front_len a large = header_len a.id_width a.number_width + file_size_octets large

-- octets of the whole PDU, its header and its CRC too
abbrev pub written_len : Addressing → Bool → Content → ℕ
written_len a large v = header_len a.id_width a.number_width + data_field_len a large v

-- what a header has in common with the other headers of its transaction
abbrev pub addressing_of : Header → Addressing
addressing_of h =
    record {
      id = h.id;
      destination = h.destination;
      id_width = h.id_width;
      number_width = h.number_width;
      crc = h.crc;
    }

-- The id of a transaction can be written in these widths.
pub record FitsWidths (ids numbers : ℕ) (id : TransactionId) : Type 0 where
  pub id_width : IsWidth ids
  pub number_width : IsWidth numbers
  pub source : id.source < 256 ^ ids
  pub number : id.number < 256 ^ numbers

-- Both entity ids and the number can be written in their widths.
pub record FitsAddressing (a : Addressing) : Type 0 where
  pub id : FitsWidths a.id_width a.number_width a.id
  pub destination : a.destination < 256 ^ a.id_width
