-- What a record has due, as it is found once, and what is derived of it.
use Rattle.std.specs.Prelude.{ℕ, Bool, false, Option, Some, None, slice_get}
use Rattle.std.specs.Option.{option_map}
use Rattle.cfdp_sender.specs.Due.{carries_by, sender_due}
use Rattle.cfdp_receiver.specs.Due.{receiver_due}
use Rattle.cfdp_entity.specs.declared.due.RecordDue.{RecordDue}
use Rattle.cfdp_entity.specs.declared.due.RecordDue.TheVariants as found
use Rattle.cfdp_entity.specs.declared.sent.SentPdu.{SentPdu}
use Rattle.cfdp_entity.specs.Seen.{Seen, Sends, Receives}
use Rattle.cfdp_entity.specs.Sent.{of_receiver, of_sender}
use Rattle.cfdp_entity.specs.Table.{Entry, TableState}

-- what the machine of a record has due, or of the record at an index; nothing if none is there
abbrev pub found_due : Seen → RecordDue
found_due (Sends x) = found.Sends (sender_due x)
found_due (Receives r m) = found.Receives (receiver_due r)

abbrev pub found_in : Option Entry → RecordDue
found_in (Some e) = found_due e.1
found_in None = found.Sends None

abbrev pub found_at : ℕ → TableState → RecordDue
found_at place st = found_in (slice_get st.records place)

-- `true` if it carries octets of a file
abbrev pub is_data : RecordDue → Bool
is_data (found.Sends due) = carries_by due
is_data (found.Receives due) = false

-- what it counts as once it is sent
abbrev pub counts_as : RecordDue → Option SentPdu
counts_as (found.Sends due) = option_map of_sender due
counts_as (found.Receives due) = option_map of_receiver due
