-- What an entity counts of the PDUs that it sends.
use Rattle.std.specs.Prelude.{ℕ, Option, Some, None, slice_get}
use Rattle.std.specs.Option.{option_map}
use Rattle.cfd_bits.specs.Counting.{raised}
use Rattle.cfdp_store.specs.declared.stored.Stored.{Stored}
use Rattle.cfdp_store.specs.declared.stored.Stored.TheVariants.{Done, Refused}
use Rattle.cfdp_sender.specs.declared.due.SenderDue.{SenderDue}
use Rattle.cfdp_sender.specs.declared.due.SenderDue.TheVariants.{NewData, AskedData}
use Rattle.cfdp_sender.specs.Due.{sender_due}
use Rattle.cfdp_receiver.specs.declared.due.Due.{Due}
use Rattle.cfdp_receiver.specs.declared.due.Due.TheVariants as dues
use Rattle.cfdp_receiver.specs.Due.{receiver_due}
use Rattle.cfdp_entity.specs.declared.sent.SentPdu.{SentPdu}
use Rattle.cfdp_entity.specs.declared.sent.SentPdu.TheVariants.{FileData, FileDataAgain, Nak, OtherDirective}
use Rattle.cfdp_entity.specs.declared.sent.SentPdus.{SentPdus}
use Rattle.cfdp_entity.specs.Seen.{Seen, Sends, Receives}
use Rattle.cfdp_entity.specs.Table.{Entry, TableState}

-- ---- what a PDU counts as
-- of a sender: new data are sent for the first time, and data that were asked for were sent before;
-- all others are directives, none of them a NAK
abbrev pub of_sender : SenderDue → SentPdu
of_sender (NewData start end) = FileData
of_sender (AskedData start end) = FileDataAgain
of_sender _ = OtherDirective

-- of a receiver: it sends directives alone
abbrev pub of_receiver : Due → SentPdu
of_receiver (dues.Nak cursor) = Nak
of_receiver _ = OtherDirective

-- the PDU that a record has due, and that the record at an index has due; none if nothing is due
abbrev pub sent_of : Seen → Option SentPdu
sent_of (Sends x) = option_map of_sender (sender_due x)
sent_of (Receives r m) = option_map of_receiver (receiver_due r)

abbrev pub sent_in : Option Entry → Option SentPdu
sent_in (Some e) = sent_of e.1
sent_in None = None

abbrev pub sent_at : ℕ → TableState → Option SentPdu
sent_at place st = sent_in (slice_get st.records place)

-- ---- the counts
abbrev pub none_sent : SentPdus
none_sent = record { file_data = 0; file_data_again = 0; naks = 0; other_directives = 0 }

-- one more was sent
abbrev pub counted_pdu : SentPdu → SentPdus → SentPdus
counted_pdu FileData s = record s { file_data = raised s.file_data }
counted_pdu FileDataAgain s = record s { file_data_again = raised s.file_data_again }
counted_pdu Nak s = record s { naks = raised s.naks }
counted_pdu OtherDirective s = record s { other_directives = raised s.other_directives }

abbrev pub counted_due : Option SentPdu → SentPdus → SentPdus
counted_due (Some pdu) s = counted_pdu pdu s
counted_due None s = s

-- what was due was sent, or if the outbox refused its octets, nothing was
abbrev pub sent_by : Stored → Option SentPdu → SentPdus → SentPdus
sent_by Done due s = counted_due due s
sent_by Refused due s = s
