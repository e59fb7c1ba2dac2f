-- What a sender sends next, and what that PDU says (CCSDS 727.0-B-5, 4.6.1.1).
use Rattle.std.specs.Prelude.{ℕ, ◌+◌, ◌-◌, ◌==◌, ◌&&◌, ◌||◌, bytes_eq, not, min, Bool, true, false, nat_lt, List, [], ◌∷◌, take, drop, Option, Some, None, if◌then◌else◌}
use Rattle.cfdp_extents.specs.Terms.{front_of}
use Rattle.cfdp_directives.specs.declared.pdu.codes.Acknowledged.TheVariants as acknowledged
use Rattle.cfdp_directives.specs.declared.pdu.codes.TransactionStatus.TheVariants.{Terminated}
use Rattle.cfdp_directives.specs.declared.user.phase.Phase.{Phase}
use Rattle.cfdp_directives.specs.declared.user.phase.Phase.TheVariants as phases
use Rattle.cfdp_directives.specs.Pdu.Codes.{no_error}
use Rattle.cfdp_directives.specs.Pdu.Sums.{sum_told}
use Rattle.cfdp_directives.specs.Pdu.Content.{Content, FileData, Metadata, Eof, Ack, Prompt}
use Rattle.cfdp_directives.specs.Pdu.Tlv.{fault_location}
use Rattle.cfdp_sender.specs.declared.phase.SenderPhase.{SenderPhase}
use Rattle.cfdp_sender.specs.declared.phase.SenderPhase.TheVariants.{Sending, Cancelling, Closed}
use Rattle.cfdp_sender.specs.declared.due.SenderDue.{SenderDue}
use Rattle.cfdp_sender.specs.declared.due.SenderDue.TheVariants as due
use Rattle.cfdp_sender.specs.State.{SenderState}

-- new data, the next segment; after the last of them EOF, until it was sent, and then to repeat it
abbrev pub rest_due : SenderState → Option SenderDue
rest_due x =
    if nat_lt x.sent x.size then Some (due.NewData x.sent (min x.size (x.sent + x.segment)))
    else if x.eof_due || not x.eof_taken then Some due.Eof
    else None

-- data that were asked for, the least range of them first, at most a segment
abbrev pub data_due : Option (ℕ × ℕ) → SenderState → Option SenderDue
data_due (Some r) x = Some (due.AskedData r.0 r.1)
data_due None x = rest_due x

abbrev pub file_due : SenderState → Option SenderDue
file_due x = if x.metadata_due then Some due.Metadata else data_due (front_of x.asked x.segment) x

abbrev pub prompt_first : Option Bool → SenderState → Option SenderDue
prompt_first (Some keep_alive) x = Some (due.Prompt keep_alive)
prompt_first None x = file_due x

abbrev pub phase_due : SenderPhase → SenderState → Option SenderDue
phase_due Sending x = prompt_first x.prompt_due x
phase_due Cancelling x = if x.eof_due then Some due.Eof else None
phase_due Closed x = None

abbrev pub ack_first : Option ℕ → SenderState → Option SenderDue
ack_first (Some condition) x = Some (due.AckOfFinished condition)
ack_first None x = phase_due x.phase x

abbrev pub is_sending : SenderPhase → Bool
is_sending Sending = true
is_sending _ = false

-- what is due, the first that holds: ACK of Finished, Prompt, Metadata, data that were asked for,
-- new data, EOF; if it is cancelled, EOF and that ACK alone, if it is closed, the ACK alone, and if
-- it is suspended, nothing
abbrev pub sender_due : SenderState → Option SenderDue
sender_due x = if x.suspended then None else ack_first x.ack_due x

-- the offset at which the octets of the file begin that it carries, and how many they are
abbrev pub extent_of : SenderDue → ℕ × ℕ
extent_of (due.AskedData start end) = (start, end - start)
extent_of (due.NewData start end) = (start, end - start)
extent_of _ = (0, 0)

-- `true` if a PDU carries octets of the file
abbrev pub carries : SenderDue → Bool
carries (due.AskedData start end) = true
carries (due.NewData start end) = true
carries _ = false

-- `true` if a PDU is due and carries octets of the file
abbrev pub carries_by : Option SenderDue → Bool
carries_by (Some d) = carries d
carries_by None = false

-- the octets of the file that it carries
abbrev pub carried : List ℕ → SenderDue → List ℕ
carried file (due.AskedData start end) = take (end - start) (drop start file)
carried file (due.NewData start end) = take (end - start) (drop start file)
carried file _ = []

-- the checksum that an EOF says: that of the front of the file that was sent
abbrev pub told_checksum : SenderState → ℕ
told_checksum x = sum_told x.checksum_kind x.sums

-- the EOF of a cancelled transaction says that it happened at this end, and the size that was sent
abbrev pub eof_says : SenderPhase → SenderState → Content
eof_says Sending x = Eof no_error (told_checksum x) x.size []
eof_says _ x =
    Eof x.condition (told_checksum x) x.sent
    (fault_location x.addressing.id.source x.addressing.id_width ∷ [])

-- what a PDU says that carries these octets
abbrev pub pdu_says : List ℕ → SenderState → SenderDue → Content
pdu_says octets x (due.AckOfFinished condition) = Ack acknowledged.Finished condition Terminated
pdu_says octets x (due.Prompt keep_alive) = Prompt keep_alive
pdu_says octets x due.Metadata = Metadata x.checksum_kind x.size x.source x.destination []
pdu_says octets x (due.AskedData start end) = FileData start octets
pdu_says octets x (due.NewData start end) = FileData start octets
pdu_says octets x due.Eof = eof_says x.phase x

-- what the PDU that is due says; `file` is the octets that the outbox has under the source name
abbrev pub sender_says : List ℕ → SenderState → SenderDue → Content
sender_says file x d = pdu_says (carried file d) x d

-- `true` if it is sending the file that the outbox has under this name
abbrev pub sends_file : List ℕ → SenderState → Bool
sends_file name x = is_sending x.phase && bytes_eq x.source name

-- the phase, as an entity says it
abbrev pub phase_told : SenderPhase → Phase
phase_told Sending = phases.Sending
phase_told Cancelling = phases.Cancelling
phase_told Closed = phases.Closed
