-- What a station shows of itself, as data of JSON. The members stand in the order of their names.
use Rattle.std.specs.Prelude.{ℕ, List, codes, String, string_bytes, Bool, true, false, Option, Some, None}
use Rattle.std.specs.declared.alloc.Global.{Global}
use Rattle.serde_json.specs.Data.{Data, null, boolean, number, unsigned, string, object, member, no_members}
use Rattle.cfdp_console.specs.declared.ledger.Way.{Way}
use Rattle.cfdp_console.specs.declared.ledger.Way.TheVariants as way
use Rattle.cfdp_console.specs.declared.shown.LinkStatus.{LinkStatus}
use Rattle.cfdp_console.specs.declared.shown.ShownCounters.{ShownCounters}
use Rattle.cfdp_console.specs.declared.shown.Dropped.{Dropped}
use Rattle.cfdp_console.specs.declared.shown.Open.{Open}
use Rattle.cfdp_console.specs.declared.shown.OpenPhases.{OpenPhases}
use Rattle.cfdp_console.specs.declared.shown.Told.{Told}
use Rattle.cfdp_console.specs.declared.shown.Failed.{Failed}
use Rattle.cfdp_console.specs.declared.shown.NoteShown.{NoteShown}

abbrev pub count : ℕ → Data
count it = number (unsigned it)

abbrev pub number_or_null : Option ℕ → Data
number_or_null None = null
number_or_null (Some it) = count it

abbrev pub text_or_null : Option (String Global) → Data
text_or_null None = null
text_or_null (Some it) = string (string_bytes it)

abbrev pub way_text : Way → List ℕ
way_text way.Sends = codes "sends"
way_text way.Receives = codes "receives"

abbrev pub state_text : Bool → List ℕ
state_text true = codes "frozen"
state_text false = codes "up"

abbrev pub open_data : Open → Data
open_data it = object (member (codes "began") (number_or_null it.began)
    (member (codes "deadline") (number_or_null it.deadline)
    (member (codes "destination") (text_or_null it.destination)
    (member (codes "id") (string (string_bytes it.id))
    (member (codes "octets") (number_or_null it.octets)
    (member (codes "phase") (string it.phase.now)
    (member (codes "size") (number_or_null it.size)
    (member (codes "source") (text_or_null it.source)
    (member (codes "suspended") (boolean it.is_suspended)
    (member (codes "waits_for") (string it.waits_for.now)
    (member (codes "way") (string (way_text it.way)) no_members)))))))))))

abbrev pub link_data : LinkStatus → Data
link_data it = object (member (codes "authenticated") (boolean it.is_authenticated)
    (member (codes "carrier") (string it.carrier.now)
    (member (codes "control_field") (number_or_null it.control_field)
    (member (codes "missing") (count it.frames.missing)
    (member (codes "octets_received") (count it.octets_received)
    (member (codes "octets_sent") (count it.octets_sent)
    (member (codes "received") (count it.frames.received)
    (member (codes "sent") (count it.frames.sent)
    (member (codes "silent") (number_or_null it.silent)
    (member (codes "state") (string (state_text it.is_frozen))
    (member (codes "thrown_away") (count it.thrown_away)
    (member (codes "to") (string (string_bytes it.to)) no_members))))))))))))

abbrev pub counters_data : ShownCounters → Data
counters_data it = object (member (codes "file_data_sent") (count it.file_data_sent)
    (member (codes "file_data_sent_again") (count it.file_data_sent_again)
    (member (codes "files_failed") (count it.files_failed)
    (member (codes "files_received") (count it.files_received)
    (member (codes "files_sent") (count it.files_sent)
    (member (codes "naks_sent") (count it.naks_sent)
    (member (codes "octets_received") (count it.octets_received)
    (member (codes "octets_sent") (count it.octets_sent)
    (member (codes "pdus_sent") (count it.pdus_sent)
    (member (codes "puts_made") (count it.puts_made)
    (member (codes "puts_refused") (count it.puts_refused)
    (member (codes "sends_failed") (count it.sends_failed) no_members))))))))))))

abbrev pub told_data : Told → Data
told_data it = object (member (codes "errors") (count it.errors)
    (member (codes "notes") (count it.notes) no_members))

abbrev pub phases_data : OpenPhases → Data
phases_data it = object (member (codes "cancelling") (count it.cancelling)
    (member (codes "finishing") (count it.finishing)
    (member (codes "receiving") (count it.receiving)
    (member (codes "sending") (count it.sending) no_members))))

abbrev pub failed_data : Failed → Data
failed_data it = object (member (codes "code") (count it.code)
    (member (codes "condition") (string it.condition.now)
    (member (codes "count") (count it.count)
    (member (codes "way") (string (way_text it.way)) no_members))))

abbrev pub note_data : NoteShown → Data
note_data it = object (member (codes "age") (count it.age)
    (member (codes "count") (count it.count)
    (member (codes "error") (boolean it.is_error)
    (member (codes "holds") (boolean it.holds)
    (member (codes "text") (string (string_bytes it.text))
    (member (codes "topic") (string it.topic.now) no_members))))))

abbrev pub dropped_data : Dropped → Data
dropped_data it = object (member (codes "cause") (string it.cause.now)
    (member (codes "count") (count it.count)
    (member (codes "layer") (string it.layer.now)
    (member (codes "number") (count it.number) no_members))))
