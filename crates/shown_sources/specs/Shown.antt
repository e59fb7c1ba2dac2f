-- Stations with other files to send, and which octets of these files a poll reads.
use Rattle.std.specs.Prelude.{◌≡◌, ℕ, true, List, [], length, slice_get, Option, Some, None, ⊤}
use Rattle.std.specs.FinMap.{get}
use Rattle.std.specs.Option.{option_map}
use Rattle.cfdp_header.specs.Files.{FileMap}
use Rattle.cfdp_store.specs.Files.{octets_in}
use Rattle.cfdp_sender.specs.declared.due.SenderDue.{SenderDue}
use Rattle.cfdp_sender.specs.Due.{carried, sender_due}
use Rattle.cfdp_entity.specs.Entity.{Counted, EntityState, with_table}
use Rattle.cfdp_entity.specs.Polling.{Turn, Stray, Place, Rests, turn}
use Rattle.cfdp_entity.specs.Seen.{Seen, Sends, Receives}
use Rattle.cfdp_entity.specs.Table.{Entry, TableState}
use Rattle.cfdp_station.specs.Station.{StationState}
use Rattle.cfdp_station.specs.declared.polled.Polled.{Polled}
use Rattle.cfdp_station.specs.declared.polled.Polled.TheVariants.{Moved, Nothing, Full}
use Rattle.cfdp_station.specs.declared.polled.Polled.TheVariants.{SourceFailed}

-- ---- other files
-- Each name must have a file in both or in neither, and both files must be as long.
abbrev pub AreAsLong : (files others : FileMap) → Type 0
AreAsLong files others = (name : List ℕ)
    → option_map length (get others name) ≡ option_map length (get files name)

-- the same table, entity or station, with these files to send, which stand
abbrev pub table_sending : FileMap → TableState → TableState
table_sending files st = record st { sources = files; stands = true }

abbrev pub entity_sending : FileMap → EntityState → EntityState
entity_sending files e = with_table e (table_sending files e.table)

abbrev pub counted_sending : FileMap → Counted → Counted
counted_sending files c = record c { state = entity_sending files c.state }

abbrev pub station_sending : FileMap → StationState → StationState
station_sending files s = record s { entity = counted_sending files s.entity }

-- ---- what is read
-- the octets of its file that a PDU carries, if one is due that carries some
abbrev pub carried_by : (file : List ℕ) → Option SenderDue → List ℕ
carried_by file (Some d) = carried file d
carried_by file None = []

-- The octets of these files that the PDU carries which a record has due, the record at an index, or
-- the one whose turn it is: octets of the file that a sender sends, otherwise none.
abbrev pub read_of : FileMap → Seen → List ℕ
read_of files (Sends x) = carried_by (octets_in files x.source) (sender_due x)
read_of files (Receives r m) = []

abbrev pub read_in : FileMap → Option Entry → List ℕ
read_in files (Some e) = read_of files e.1
read_in files None = []

abbrev pub read_by : FileMap → Turn → EntityState → List ℕ
read_by files (Stray s strays) e = []
read_by files (Place place) e = read_in files (slice_get e.table.records place)
read_by files Rests e = []

-- A poll answered this. If it moved a PDU, the octets of a file that it read, which the outbox has
-- afterwards, are those that these files have there.
abbrev pub ReadsAs : Polled → FileMap → (old new : EntityState) → Type 0
ReadsAs Moved files old new =
    read_by new.table.sources (turn old) old ≡ read_by files (turn old) old
ReadsAs Nothing files old new = ⊤
ReadsAs Full files old new = ⊤
ReadsAs SourceFailed files old new = ⊤
