-- Which octets are which PDU, by the bit fields of the standard's tables. Spare bits are in no
-- line: any value of them is accepted.
use Rattle.std.specs.Prelude.{◌≡◌, ℕ, ◌+◌, ◌*◌, ◌≤◌, Bool, false, List, ◌∷◌, ◌++◌, length, drop, if◌then◌else◌}
use Rattle.std.specs.List.{flat_map}
use Rattle.cfd_bits.specs.Field.{field, flag}
use Rattle.cfdp_header.specs.declared.value.Header.{Header}
use Rattle.cfdp_header.specs.Crc.{before_crc}
use Rattle.cfdp_header.specs.Header.{SpellsHeader, header_len}
use Rattle.cfdp_directives.specs.declared.pdu.codes.Delivery.{Delivery}
use Rattle.cfdp_directives.specs.declared.pdu.codes.FileStatus.{FileStatus}
use Rattle.cfdp_directives.specs.declared.pdu.codes.TransactionStatus.{TransactionStatus}
use Rattle.cfdp_directives.specs.declared.pdu.codes.Acknowledged.{Acknowledged}
use Rattle.cfdp_directives.specs.Pdu.Codes.{file_size_octets, is_refused, delivery_code, file_status_code, transaction_status_code, acknowledged_code}
use Rattle.cfdp_directives.specs.Pdu.Tlv.{Tlv, tlv}
use Rattle.cfdp_directives.specs.Pdu.Pair.{ArePairs}
use Rattle.cfdp_directives.specs.Pdu.Content.{Content, FileData, Metadata, Eof, Finished, Ack, Nak, Prompt, KeepAlive, pdu_type_of}

-- octets of a file-size field, FSS, in a PDU with this header (CCSDS 727.0-B-5, 5.1.10)
abbrev pub fss : Header → ℕ
fss h = file_size_octets h.large

-- an octet of length, and that many octets: LV (CCSDS 727.0-B-5, 5.1.8)
abbrev pub lv : List ℕ → List ℕ
lv value = length value ∷ value

-- the octets of segment metadata before the offset (CCSDS 727.0-B-5, 5.3, table 5-14)
abbrev pub skipped : Bool → List ℕ → ℕ
skipped segment_metadata d = if segment_metadata then 1 + field d 2 6 else 0

-- File data (CCSDS 727.0-B-5, 5.3): the offset, whose field has w octets, and the data to the end.
pub record IsFileData (w : ℕ) (segment_metadata : Bool) (offset : ℕ) (bytes : List ℕ)
    (d : List ℕ) : Type 0 where
  pub room : skipped segment_metadata d + w ≤ length d
  pub offset_field : field d (8 * skipped segment_metadata d) (8 * w) ≡ offset
  pub after : drop (skipped segment_metadata d + w) d ≡ bytes

-- Metadata (CCSDS 727.0-B-5, 5.2.5). Bits 8 to 11 are free: spare, closure requested, spare.
pub record IsMetadata (w checksum_kind size : ℕ) (source destination : List ℕ) (options : List Tlv)
    (d : List ℕ) : Type 0 where
  pub room : 2 + w ≤ length d
  pub code : field d 0 8 ≡ 7
  pub kind_field : field d 12 4 ≡ checksum_kind
  pub size_field : field d 16 (8 * w) ≡ size
  pub rest : drop (2 + w) d ≡ lv source ++ (lv destination ++ flat_map tlv options)

-- EOF (CCSDS 727.0-B-5, 5.2.2). Bits 12 to 15 are free.
pub record IsEof (w : ℕ) (condition checksum size : ℕ) (tlvs : List Tlv) (d : List ℕ) : Type 0 where
  pub room : 6 + w ≤ length d
  pub code : field d 0 8 ≡ 4
  pub condition_field : field d 8 4 ≡ condition
  pub allowed : is_refused condition ≡ false
  pub checksum_field : field d 16 32 ≡ checksum
  pub size_field : field d 48 (8 * w) ≡ size
  pub rest : drop (6 + w) d ≡ flat_map tlv tlvs

-- Finished (CCSDS 727.0-B-5, 5.2.3). Bit 12 is free.
pub record IsFinished (condition : ℕ) (delivery : Delivery) (status : FileStatus) (tlvs : List Tlv)
    (d : List ℕ) : Type 0 where
  pub room : 2 ≤ length d
  pub code : field d 0 8 ≡ 5
  pub condition_field : field d 8 4 ≡ condition
  pub allowed : is_refused condition ≡ false
  pub delivery_field : field d 13 1 ≡ delivery_code delivery
  pub status_field : field d 14 2 ≡ file_status_code status
  pub rest : drop 2 d ≡ flat_map tlv tlvs

-- ACK (CCSDS 727.0-B-5, 5.2.4). Bits 12 to 15, the subtype, and 20 and 21 are free.
pub record IsAck (of : Acknowledged) (condition : ℕ) (status : TransactionStatus)
    (d : List ℕ) : Type 0 where
  pub size_octets : length d ≡ 3
  pub code : field d 0 8 ≡ 6
  pub of_field : field d 8 4 ≡ acknowledged_code of
  pub condition_field : field d 16 4 ≡ condition
  pub allowed : is_refused condition ≡ false
  pub status_field : field d 22 2 ≡ transaction_status_code status

-- NAK (CCSDS 727.0-B-5, 5.2.6): the scope, and the requested ranges to the end.
pub record IsNak (w : ℕ) (start end : ℕ) (pairs : List (ℕ × ℕ)) (d : List ℕ) : Type 0 where
  pub room : 1 + 2 * w ≤ length d
  pub code : field d 0 8 ≡ 8
  pub start_field : field d 8 (8 * w) ≡ start
  pub end_field : field d (8 + 8 * w) (8 * w) ≡ end
  pub rest : ArePairs w pairs (drop (1 + 2 * w) d)

-- Prompt (CCSDS 727.0-B-5, 5.2.7). Bits 9 to 15 are free.
pub record IsPrompt (keep_alive : Bool) (d : List ℕ) : Type 0 where
  pub size_octets : length d ≡ 2
  pub code : field d 0 8 ≡ 9
  pub kind_field : field d 8 1 ≡ flag keep_alive

-- Keep Alive (CCSDS 727.0-B-5, 5.2.8).
pub record IsKeepAlive (w : ℕ) (progress : ℕ) (d : List ℕ) : Type 0 where
  pub size_octets : length d ≡ 1 + w
  pub code : field d 0 8 ≡ 12
  pub progress_field : field d 8 (8 * w) ≡ progress

-- The octets d say this; file-size fields have w octets.
abbrev IsContent : ℕ → Bool → Content → List ℕ → Type 0
IsContent w segment_metadata (FileData offset bytes) d =
    IsFileData w segment_metadata offset bytes d
IsContent w segment_metadata (Metadata kind size source destination options) d =
    IsMetadata w kind size source destination options d
IsContent w segment_metadata (Eof condition checksum size tlvs) d =
    IsEof w condition checksum size tlvs d
IsContent w segment_metadata (Finished condition delivery status tlvs) d =
    IsFinished condition delivery status tlvs d
IsContent w segment_metadata (Ack of condition status) d = IsAck of condition status d
IsContent w segment_metadata (Nak start end pairs) d = IsNak w start end pairs d
IsContent w segment_metadata (Prompt keep_alive) d = IsPrompt keep_alive d
IsContent w segment_metadata (KeepAlive progress) d = IsKeepAlive w progress d

-- The data field d of a PDU with this header says this.
abbrev pub Says : Header → Content → List ℕ → Type 0
Says h v d = (h.pdu_type ≡ pdu_type_of v) × IsContent (fss h) h.segment_metadata v d

-- The octets, all of them, are this PDU. A CRC at their end is no part of what it says (CCSDS
-- 727.0-B-5, 4.1).
pub record SpellsPdu (h : Header) (v : Content) (text : List ℕ) : Type 0 where
  pub header : SpellsHeader h text
  pub content : Says h v (before_crc h.crc (drop (header_len h.id_width h.number_width) text))
