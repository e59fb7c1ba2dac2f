-- What a PDU says, without where it lies in memory.
use Rattle.std.specs.Prelude.{ℕ, Bool, List}
use Rattle.cfdp_header.specs.declared.value.PduType.{PduType}
use Rattle.cfdp_header.specs.declared.value.PduType.TheVariants as types
use Rattle.cfdp_directives.specs.declared.pdu.codes.Delivery.{Delivery}
use Rattle.cfdp_directives.specs.declared.pdu.codes.FileStatus.{FileStatus}
use Rattle.cfdp_directives.specs.declared.pdu.codes.TransactionStatus.{TransactionStatus}
use Rattle.cfdp_directives.specs.declared.pdu.codes.Acknowledged.{Acknowledged}
use Rattle.cfdp_directives.specs.declared.pdu.content.Pdu.{Pdu}
use Rattle.cfdp_directives.specs.declared.pdu.content.Pdu.TheVariants as pdu
use Rattle.cfdp_directives.specs.Pdu.Tlv.{Tlv}

pub data Content : Type 0 where
  FileData : (offset : ℕ) (bytes : List ℕ) → Content
  Metadata : (checksum_kind size : ℕ) (source destination : List ℕ) (options : List Tlv) → Content
  Eof : (condition checksum size : ℕ) (tlvs : List Tlv) → Content
  Finished : (condition : ℕ) (delivery : Delivery) (status : FileStatus) (tlvs : List Tlv) → Content
  Ack : (of : Acknowledged) (condition : ℕ) (status : TransactionStatus) → Content
  Nak : (start end : ℕ) (pairs : List (ℕ × ℕ)) → Content
  Prompt : (keep_alive : Bool) → Content
  KeepAlive : (progress : ℕ) → Content

-- what a PDU in memory says
abbrev pub view : Pdu → Content
view (pdu.FileData offset bytes) = FileData offset bytes.now
view (pdu.Metadata kind size source destination options) =
    Metadata kind size source.now destination.now options
view (pdu.Eof condition checksum size tlvs) = Eof condition checksum size tlvs
view (pdu.Finished condition delivery status tlvs) = Finished condition delivery status tlvs
view (pdu.Ack of condition status) = Ack of condition status
view (pdu.Nak start end pairs) = Nak start end pairs
view (pdu.Prompt keep_alive) = Prompt keep_alive
view (pdu.KeepAlive progress) = KeepAlive progress

-- the PDU type of its header (CCSDS 727.0-B-5, table 5-1)
abbrev pub pdu_type_of : Content → PduType
pdu_type_of (FileData offset bytes) = types.FileData
pdu_type_of _ = types.FileDirective
