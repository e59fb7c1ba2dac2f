-- What is seen of a record: the machine of its side, and while it receives, what is staged for it.
use Rattle.std.specs.Prelude.{ℕ, Bool, false, List, [], is_some, Option, Some, None, unwrap_or, if◌then◌else◌}
use Rattle.std.specs.FinMap as map
use Rattle.cfdp_header.specs.Files.{FileMap}
use Rattle.cfdp_extents.specs.Terms.{end_of}
use Rattle.cfdp_directives.specs.declared.pdu.addressing.Addressing.{Addressing}
use Rattle.cfdp_directives.specs.declared.user.phase.Phase.{Phase}
use Rattle.cfdp_directives.specs.Pdu.Addressing.{header_of, written_len}
use Rattle.cfdp_directives.specs.Pdu.Codes.{is_large}
use Rattle.cfdp_directives.specs.Pdu.Content.{Content}
use Rattle.cfdp_directives.specs.Pdu.Written.{pdu_octets}
use Rattle.cfdp_store.specs.Staged.{OctetMap}
use Rattle.cfdp_store.specs.Files.{octets_in}
use Rattle.cfdp_sender.specs.State.{SenderState}
use Rattle.cfdp_sender.specs.Due as sends
use Rattle.cfdp_sender.specs.declared.due.SenderDue.{SenderDue}
use Rattle.cfdp_receiver.specs.State.{ReceiverState, is_receiving, public_phase}
use Rattle.cfdp_receiver.specs.Due as receives
use Rattle.cfdp_receiver.specs.declared.due.Due.{Due}
use Rattle.cfdp_entity.specs.declared.record.Record.{Record}
use Rattle.cfdp_entity.specs.declared.record.Record.TheVariants as held

pub data Seen : Type 0 where
  Sends : (state : SenderState) → Seen
  Receives : (state : ReceiverState) (octets : OctetMap) → Seen

-- what is staged for a receiver: nothing is kept of that if it receives no more
abbrev pub octets_seen : ReceiverState → OctetMap → OctetMap
octets_seen r m = if is_receiving r.phase then m else map.empty

abbrev pub seen : Option OctetMap → Record → Seen
seen staged (held.Sends x) = Sends x
seen staged (held.Receives r) = Receives r (octets_seen r (unwrap_or staged map.empty))

-- ---- what is due
abbrev pub is_due : Seen → Bool
is_due (Sends x) = is_some (sends.sender_due x)
is_due (Receives r m) = is_some (receives.receiver_due r)

abbrev pub addressing_of : Seen → Addressing
addressing_of (Sends x) = x.addressing
addressing_of (Receives r m) = r.addressing

-- `true` if the PDUs that it sends have the large file flag: a sender's by its file, a receiver's
-- if it heard a PDU that has it
abbrev pub large_of : Seen → Bool
large_of (Sends x) = is_large x.size
large_of (Receives r m) = r.large

abbrev pub sender_content : List ℕ → SenderState → Option SenderDue → Option Content
sender_content file x (Some d) = Some (sends.sender_says file x d)
sender_content file x None = None

abbrev pub receiver_content : ReceiverState → Option Due → Option Content
receiver_content r (Some d) = Some (receives.receiver_says r d)
receiver_content r None = None

-- what the PDU that is due says
abbrev pub due_content : FileMap → Seen → Option Content
due_content sources (Sends x) = sender_content (octets_in sources x.source) x (sends.sender_due x)
due_content sources (Receives r m) = receiver_content r (receives.receiver_due r)

abbrev pub octets_of : (large : Bool) → Addressing → Option Content → List ℕ
octets_of large a (Some v) = pdu_octets (header_of a large v) v
octets_of large a None = []

abbrev pub len_of : (large : Bool) → Addressing → Option Content → ℕ
len_of large a (Some v) = written_len a large v
len_of large a None = 0

-- its octets, and how many they are; none if nothing is due
abbrev pub due_octets : FileMap → Seen → List ℕ
due_octets sources s = octets_of (large_of s) (addressing_of s) (due_content sources s)

abbrev pub due_len : FileMap → Seen → ℕ
due_len sources s = len_of (large_of s) (addressing_of s) (due_content sources s)

-- `true` if the PDU that is due carries octets of a file
abbrev pub carries_data : Seen → Bool
carries_data (Sends x) = sends.carries_by (sends.sender_due x)
carries_data (Receives r m) = false

-- `true` if it is sending the file that the outbox has under this name
abbrev pub sends_file : List ℕ → Seen → Bool
sends_file name (Sends x) = sends.sends_file name x
sends_file name (Receives r m) = false

-- how far a transaction has come
abbrev pub phase_of : Seen → Phase
phase_of (Sends x) = sends.phase_told x.phase
phase_of (Receives r m) = public_phase r.phase

-- the offset up to which octets of the file were sent, or came: what a Keep Alive says
-- (CCSDS 727.0-B-5, 5.2.8)
abbrev pub progress_of : Seen → ℕ
progress_of (Sends x) = x.sent
progress_of (Receives r m) = end_of r.held
