-- What a sender keeps of its transaction, and what holds of it.
use Rattle.std.specs.Prelude.{◌≡◌, ℕ, ◌^◌, ◌<◌, ◌≤◌, Bool, true, false, List, Option, None, IfSome}
use Rattle.std.specs.FinSet as set
use Rattle.cfdp_extents.specs.Offsets.{Offsets}
use Rattle.cfdp_directives.specs.declared.pdu.addressing.Addressing.{Addressing}
use Rattle.cfdp_directives.specs.Pdu.Addressing.{FitsAddressing}
use Rattle.cfdp_directives.specs.Pdu.Codes.{IsCondition, no_error, size_limit}
use Rattle.cfdp_directives.specs.declared.pdu.sums.Checksums.{Checksums}
use Rattle.cfdp_directives.specs.Pdu.Sums.{nothing_summed, SumsFit}
use Rattle.cfdp_directives.specs.User.FileName.{IsFileName}
use Rattle.cfdp_sender.specs.declared.transfer.Transfer.{Transfer}
use Rattle.cfdp_sender.specs.declared.phase.SenderPhase.{SenderPhase}
use Rattle.cfdp_sender.specs.declared.phase.SenderPhase.TheVariants.{Sending, Cancelling}

pub record SenderState : Type 0 where
  -- the ids of the transaction and its two ends, and how wide they are written
  pub addressing : Addressing
  pub checksum_kind : ℕ
  -- the most octets of the file that one PDU carries
  pub segment : ℕ
  -- the file's name at this end, and its name at the receiver
  pub source : List ℕ
  pub destination : List ℕ
  -- octets of the file
  pub size : ℕ
  pub phase : SenderPhase
  pub suspended : Bool
  -- the end of the data sent first, and what is kept of that front of the file for its checksum
  pub sent : ℕ
  pub sums : Checksums
  -- the offsets that were asked for again
  pub asked : Offsets
  pub metadata_due : Bool
  -- the Prompt that is due, if one is: `true` if it is for a Keep Alive
  pub prompt_due : Option Bool
  -- `true` if an EOF must be sent again, or that of a cancelled transaction
  pub eof_due : Bool
  -- `true` if an EOF was sent, and `true` if one without an error was acknowledged
  pub eof_taken : Bool
  pub acknowledged : Bool
  -- the condition of the Finished heard last, while its ACK is due
  pub ack_due : Option ℕ
  -- why the transaction was cancelled
  pub condition : ℕ
  -- how often EOF was sent again since it was first sent, or since the count began again
  pub count : ℕ

-- the most octets of a file that one PDU may carry
abbrev pub most_segment : ℕ
most_segment = 4096

-- a put opens a sender: its Metadata is due
abbrev pub opened_sender : Transfer → SenderState
opened_sender t = record {
  addressing = t.addressing;
  checksum_kind = t.checksum_kind;
  segment = t.segment;
  source = t.source;
  destination = t.destination;
  size = t.size;
  phase = Sending;
  suspended = false;
  sent = 0;
  sums = nothing_summed;
  asked = set.empty;
  metadata_due = true;
  prompt_due = None;
  eof_due = false;
  eof_taken = false;
  acknowledged = false;
  ack_due = None;
  condition = no_error;
  count = 0;
}

-- What a put sends must be sendable: ids fit their widths, and segment, names and size their
-- ranges.
pub record IsSendable (t : Transfer) : Type 0 where
  pub addressing : FitsAddressing t.addressing
  pub kind : t.checksum_kind < 16
  pub some : 1 ≤ t.segment
  pub most : t.segment ≤ most_segment
  pub source : IsFileName t.source
  pub destination : IsFileName t.destination
  pub size : t.size ≤ size_limit true

-- what a sender must send
abbrev pub transfer_of : SenderState → Transfer
transfer_of x = record {
  addressing = x.addressing;
  checksum_kind = x.checksum_kind;
  segment = x.segment;
  source = x.source;
  destination = x.destination;
  size = x.size;
}

-- If a transaction is cancelled, it is because of an error.
abbrev pub IsCause : SenderPhase → ℕ → Type 0
IsCause Cancelling condition = 0 < condition
IsCause _ condition = Unit {0}

-- Every PDU that may be due can be written, and its data are in the file.
pub record IsSender (x : SenderState) : Type 0 where
  pub transfer : IsSendable (transfer_of x)
  pub sent : x.sent ≤ x.size
  pub sums : SumsFit x.sums
  pub asked : (n : ℕ) → set.contains x.asked n ≡ true → n < x.sent
  pub ack : IfSome x.ack_due IsCondition
  pub condition : IsCondition x.condition
  pub cause : IsCause x.phase x.condition
