-- The written spelling of each PDU: spare bits are 0.
use Rattle.std.specs.Prelude.{◌≡◌, ℕ, ◌+◌, ◌*◌, ◌^◌, ◌<◌, false, List, ◌++◌, length}
use Rattle.std.specs.List.{flat_map, AllByRecursion}
use Rattle.cfd_bits.specs.Field.{octets, flag}
use Rattle.cfdp_header.specs.declared.value.Header.{Header}
use Rattle.cfdp_header.specs.Crc.{crc_len, with_crc}
use Rattle.cfdp_header.specs.Header.{FitsHeader, header_octets}
use Rattle.cfdp_directives.specs.Pdu.Codes.{IsCondition, delivery_code, file_status_code, transaction_status_code, acknowledged_code, acknowledged_subtype}
use Rattle.cfdp_directives.specs.Pdu.Tlv.{tlv}
use Rattle.cfdp_directives.specs.Pdu.Pair.{pair, IsPair}
use Rattle.cfdp_directives.specs.Pdu.Content.{Content, FileData, Metadata, Eof, Finished, Ack, Nak, Prompt, KeepAlive, pdu_type_of}
use Rattle.cfdp_directives.specs.Pdu.Grammar.{lv, fss}

-- the data field; file-size fields have w octets
abbrev pub content_octets : ℕ → Content → List ℕ
content_octets w (FileData offset bytes) = octets w offset ++ bytes
content_octets w (Metadata kind size source destination options) =
    octets 1 7 ++ octets 1 kind ++ octets w size ++ lv source ++ lv destination
    ++ flat_map tlv options
content_octets w (Eof condition checksum size tlvs) =
    octets 1 4 ++ octets 1 (16 * condition) ++ octets 4 checksum ++ octets w size
    ++ flat_map tlv tlvs
content_octets w (Finished condition delivery status tlvs) =
    octets 1 5
    ++ octets 1 (16 * condition + 4 * delivery_code delivery + file_status_code status)
    ++ flat_map tlv tlvs
content_octets w (Ack of condition status) =
    octets 1 6
    ++ octets 1 (16 * acknowledged_code of + acknowledged_subtype of)
    ++ octets 1 (16 * condition + transaction_status_code status)
content_octets w (Nak start end pairs) =
    octets 1 8 ++ octets w start ++ octets w end ++ flat_map (pair w) pairs
content_octets w (Prompt keep_alive) = octets 1 9 ++ octets 1 (128 * flag keep_alive)
content_octets w (KeepAlive progress) = octets 1 12 ++ octets w progress

-- how many octets that is
abbrev pub content_len : ℕ → Content → ℕ
content_len w (FileData offset bytes) = w + length bytes
content_len w (Metadata kind size source destination options) =
    4 + w + length source + length destination + length (flat_map tlv options)
content_len w (Eof condition checksum size tlvs) = 6 + w + length (flat_map tlv tlvs)
content_len w (Finished condition delivery status tlvs) = 2 + length (flat_map tlv tlvs)
content_len w (Ack of condition status) = 3
content_len w (Nak start end pairs) = 1 + 2 * w + 2 * w * length pairs
content_len w (Prompt keep_alive) = 2
content_len w (KeepAlive progress) = 1 + w

-- The content can be written: each number fits its field.
abbrev pub FitsContent : ℕ → Content → Type 0
FitsContent w (FileData offset bytes) = offset < 256 ^ w
FitsContent w (Metadata kind size source destination options) =
    (kind < 16) × (size < 256 ^ w) × (length source < 256) × (length destination < 256)
FitsContent w (Eof condition checksum size tlvs) =
    IsCondition condition × (checksum < 2 ^ 32) × (size < 256 ^ w)
FitsContent w (Finished condition delivery status tlvs) = IsCondition condition
FitsContent w (Ack of condition status) = IsCondition condition
FitsContent w (Nak start end pairs) =
    (start < 256 ^ w) × (end < 256 ^ w) × AllByRecursion (IsPair w) pairs
FitsContent w (Prompt keep_alive) = Unit {0}
FitsContent w (KeepAlive progress) = progress < 256 ^ w

-- The header is one for this content, and both can be written.
pub record CanWrite (h : Header) (v : Content) : Type 0 where
  pub header : FitsHeader h
  pub content : FitsContent (fss h) v
  pub kind : h.pdu_type ≡ pdu_type_of v
  pub no_segment_metadata : h.segment_metadata ≡ false
  pub len : h.length ≡ content_len (fss h) v + crc_len h.crc

-- The header has the kind and the length of this content, and the CRC after it.
abbrev pub IsHeaderOf : Header → Content → Type 0
IsHeaderOf h v =
    (h.pdu_type ≡ pdu_type_of v)
    × (h.segment_metadata ≡ false)
    × (h.length ≡ content_len (fss h) v + crc_len h.crc)

-- the octets that a PDU is written as, with a CRC if its flag says so
abbrev pub pdu_octets : Header → Content → List ℕ
pdu_octets h v = with_crc h.crc (header_octets h ++ content_octets (fss h) v)
