-- The numbers that calls answer with.
use Rattle.std.specs.Prelude.{ℕ, ◌+◌, ◌≤◌, Option, Some, None, Result, Ok, Err}
use Rattle.cfdp_directives.specs.declared.pdu.error.PduError.{PduError}
use Rattle.cfdp_directives.specs.Pdu.Faults.{pdu_refusal_number}
use Rattle.cfdp_entity.specs.declared.amiss.EntityField.{EntityField}
use Rattle.cfdp_entity.specs.declared.amiss.EntityField.TheVariants as entity
use Rattle.cfdp_entity.specs.declared.error.AddError.{AddError}
use Rattle.cfdp_entity.specs.declared.error.AddError.TheVariants as adds
use Rattle.cfdp_entity.specs.declared.error.RequestError.{RequestError}
use Rattle.cfdp_entity.specs.declared.error.RequestError.TheVariants as requests
use Rattle.cfdp_entity.specs.declared.error.ForgetError.{ForgetError}
use Rattle.cfdp_entity.specs.declared.error.ForgetError.TheVariants as forgets
use Rattle.cfdp_entity.specs.declared.error.PutError.{PutError}
use Rattle.cfdp_entity.specs.declared.error.PutError.TheVariants as puts
use Rattle.cfdp_entity.specs.declared.error.RemoveError.{RemoveError}
use Rattle.cfdp_entity.specs.declared.error.RemoveError.TheVariants as removes
use Rattle.aos_frame.specs.declared.config.LinkField.{LinkField}
use Rattle.aos_frame.specs.declared.config.LinkField.TheVariants as links
use Rattle.cfdp_station.specs.declared.amiss.StationField.{StationField}
use Rattle.cfdp_station.specs.declared.amiss.StationField.TheVariants as stations
use Rattle.cfdp_station.specs.declared.polled.Polled.{Polled}
use Rattle.cfdp_station.specs.declared.polled.Polled.TheVariants as polls
use Rattle.cfdp_store.specs.declared.error.StoreError.{StoreError}
use Rattle.cfdp_store.specs.declared.error.StoreError.TheVariants as stores
use Rattle.frame_security.specs.declared.opening.FrameRefusal.{FrameRefusal}
use Rattle.frame_security.specs.declared.opening.FrameRefusal.TheVariants as refusals
use Rattle.cfdp_c.specs.declared.held.FoldersError.{FoldersError}
use Rattle.cfdp_c.specs.declared.held.FoldersError.TheVariants as folders
use Rattle.cfdp_c.specs.declared.resuming.JournaledError.{JournaledError}
use Rattle.cfdp_c.specs.declared.resuming.JournaledError.TheVariants as journaled
use Rattle.cfdp_c.specs.declared.bad_field.BadField.{BadField}
use Rattle.cfdp_c.specs.declared.bad_field.BadField.TheVariants as fields

abbrev pub ok : ℕ
ok = 0

abbrev pub closed : ℕ
closed = 1

abbrev pub already_open : ℕ
already_open = 2

abbrev pub bad_argument : ℕ
bad_argument = 3

abbrev pub no_memory : ℕ
no_memory = 4

abbrev pub no_room : ℕ
no_room = 5

abbrev pub nothing : ℕ
nothing = 6

-- the files of the station are in folders, and the call is of files in memory
abbrev pub in_folders : ℕ
in_folders = 7

-- ---- what the station answers, as a number
abbrev pub add_code : AddError → ℕ
add_code adds.Taken = 11
add_code adds.NoMemory = no_memory

abbrev pub remove_code : RemoveError → ℕ
remove_code removes.NoSuchFile = 21
remove_code removes.InUse = 15

abbrev pub folders_code : FoldersError → ℕ
folders_code folders.NoOutbox = 12
folders_code folders.NoInbox = 13
folders_code folders.InboxInUse = 14
folders_code folders.NoMemory = no_memory

-- also of folders with a journal
abbrev pub journaled_code : JournaledError → ℕ
journaled_code (journaled.Folders by) = folders_code by
journaled_code journaled.NoJournal = 16
journaled_code journaled.InUse = 17
journaled_code journaled.OfOthers = 18
journaled_code journaled.Misplaced = 19

-- if the outbox failed to look for a file
abbrev pub look_code : StoreError → ℕ
look_code stores.Name = 22
look_code stores.Device = 26
look_code stores.NoMemory = no_memory

abbrev pub put_code : PutError → ℕ
put_code puts.NoSuchFile = 21
put_code puts.Name = 22
put_code puts.TooLarge = 23
put_code puts.TableFull = 24
put_code puts.NumbersSpent = 25
put_code puts.SourceFault = 26
put_code puts.NoMemory = no_memory

abbrev pub request_code : RequestError → ℕ
request_code requests.Unknown = 31
request_code requests.AlreadyClosed = 32
request_code requests.WrongSide = 33
request_code requests.AlreadySo = 34
request_code requests.NoMemory = no_memory

abbrev pub forget_code : ForgetError → ℕ
forget_code forgets.Unknown = 31
forget_code forgets.StillOpen = 35
forget_code forgets.AnswerDue = 36
forget_code forgets.NoMemory = no_memory

abbrev pub poll_code : Polled → ℕ
poll_code polls.Moved = ok
poll_code polls.Nothing = nothing
poll_code polls.Full = 41
poll_code polls.SourceFailed = 26

-- of a result: its error's number, or 0
abbrev pub add_answer : {T : Type 0} → Result T AddError → ℕ
add_answer (Ok value) = ok
add_answer (Err by) = add_code by

abbrev pub remove_answer : {T : Type 0} → Result T RemoveError → ℕ
remove_answer (Ok value) = ok
remove_answer (Err by) = remove_code by

abbrev pub put_answer : {T : Type 0} → Result T PutError → ℕ
put_answer (Ok value) = ok
put_answer (Err by) = put_code by

abbrev pub request_answer : {T : Type 0} → Result T RequestError → ℕ
request_answer (Ok value) = ok
request_answer (Err by) = request_code by

abbrev pub forget_answer : {T : Type 0} → Result T ForgetError → ℕ
forget_answer (Ok value) = ok
forget_answer (Err by) = forget_code by

abbrev pub poll_answer : {E : Type 0} → Result Polled E → ℕ
poll_answer (Ok polled) = poll_code polled
poll_answer (Err by) = no_memory

-- of the next frame of a lane, if there is one
abbrev pub transmit_answer : {L E : Type 0} → Result (Option L) E → ℕ
transmit_answer (Ok (Some lane)) = ok
transmit_answer (Ok None) = nothing
transmit_answer (Err by) = no_memory

abbrev pub memory_answer : {T E : Type 0} → Result T E → ℕ
memory_answer (Ok value) = ok
memory_answer (Err by) = no_memory

-- of the first thing that is wrong with a PDU
abbrev pub pdu_answer : Option PduError → ℕ
pdu_answer None = ok
pdu_answer (Some by) = 50 + pdu_refusal_number by

-- ---- a field of a configuration that isn't as it must be
abbrev pub entity_number : EntityField → ℕ
entity_number entity.IdWidth = 71
entity_number entity.Entity = 72
entity_number entity.Peer = 73
entity_number entity.NumberWidth = 74
entity_number entity.Segment = 75
entity_number entity.ChecksumKind = 76
entity_number entity.EofTime = 77
entity_number entity.NakTime = 78
entity_number entity.FinishedTime = 79
entity_number entity.InactivityTime = 80

abbrev pub link_number : LinkField → ℕ
link_number links.VirtualChannel = 82
link_number links.DataVirtualChannel = 83
link_number links.Zone = 84
link_number links.Apid = 85
link_number links.InsertZone = 93

abbrev pub station_number : StationField → ℕ
station_number (stations.Entity field) = entity_number field
station_number stations.Capacity = 81
station_number (stations.Sends field) = link_number field
station_number (stations.Receives field) = link_number field + 4

abbrev pub field_number : BadField → ℕ
field_number (fields.Station field) = station_number field
field_number fields.Size = 70
field_number fields.Checksum = 76
field_number fields.OnAckLimit = 90
field_number fields.OnNakLimit = 91
field_number fields.OnInactivity = 92
field_number fields.SendsControlField = 94
field_number fields.SendsErrorControl = 95
field_number fields.PduCrc = 96
field_number fields.ReceivesControlField = 98
field_number fields.ReceivesErrorControl = 99

-- These numbers name a field.
abbrev pub NamesField : ℕ → Type 0
NamesField number = (70 ≤ number) × (number ≤ 99)

-- why a secured frame is refused
abbrev pub refusal_code : FrameRefusal → ℕ
refusal_code refusals.Short = 101
refusal_code refusals.Damaged = 102
refusal_code refusals.UnknownSpi = 103
refusal_code refusals.NotAuthentic = 104
refusal_code refusals.Replayed = 105
