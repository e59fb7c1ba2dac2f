-- Exported: the header of a content can be written.
use Rattle.std.proofs.Common.{ℕ, Bool, true, false, ◌^◌, ◌<◌, ◌≤◌, refl, arith}
use Rattle.cfdp_header.specs.Crc.{crc_len}
use Rattle.cfdp_directives.specs.declared.pdu.addressing.Addressing.{Addressing}
use Rattle.cfdp_directives.specs.Pdu.Codes.{file_size_octets}
use Rattle.cfdp_directives.specs.Pdu.Content.{Content, pdu_type_of}
use Rattle.cfdp_directives.specs.Pdu.Direction.{direction_of}
use Rattle.cfdp_header.specs.Header.{FitsHeader}
use Rattle.cfdp_header.specs.declared.value.Direction.{Direction}
use Rattle.cfdp_header.specs.declared.value.PduType.{PduType}
use Rattle.cfdp_directives.specs.Pdu.Written.{FitsContent, CanWrite}
use Rattle.cfdp_directives.specs.Pdu.Addressing.{header_by, header_of, data_field_len, FitsAddressing}

pub header_fits : (a : Addressing) (large : Bool) (pdu_type : PduType) (direction : Direction) (length : ℕ) → FitsAddressing a → length < 2 ^ 16 → FitsHeader (header_by a large pdu_type direction length)
header_fits a large pdu_type direction length fits short = record {
  id_width = fits.id.id_width;
  number_width = fits.id.number_width;
  length = short;
  source = fits.id.source;
  number = fits.id.number;
  destination = fits.destination;
}

pub can_write : (a : Addressing) (large : Bool) (v : Content) → FitsAddressing a → FitsContent (file_size_octets large) v → data_field_len a large v < 2 ^ 16 →
    CanWrite (header_of a large v) v
can_write a large v fits content short = record {
  header = header_fits a large (pdu_type_of v) (direction_of v) (data_field_len a large v) fits short;
  content = content;
  kind = refl;
  no_segment_metadata = refl;
  len = refl;
}

pub crc_short : (crc : Bool) → crc_len crc ≤ 2
crc_short true = omega arith
crc_short false = omega arith
