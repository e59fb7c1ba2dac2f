-- How a table is kept.
use Rattle.std.specs.Prelude.{◌≡◌, ◌≤◌, Bool, true, List, [], ◌∷◌, ◌++◌, map, length}
use Rattle.std.specs.List.{IsDistinct}
use Rattle.std.specs.Map.{keys_of}
use Rattle.std.specs.FinSet as set
use Rattle.cfdp_header.specs.declared.value.TransactionId.{TransactionId}
use Rattle.cfdp_header.specs.Ids.{id_cmp, same_id}
use Rattle.cfdp_header.specs.Files.{FileMap}
use Rattle.cfdp_directives.specs.declared.user.indication.Indication.{Indication}
use Rattle.cfdp_timers.specs.Effects.{HasRoom}
use Rattle.cfdp_receiver.specs.State.{IsReady}
use Rattle.cfdp_sender.specs.Does.{HasOwnFile}
use Rattle.cfdp_entity.specs.declared.record.Record.{Record}
use Rattle.cfdp_entity.specs.declared.record.Record.TheVariants as held
use Rattle.cfdp_entity.specs.Desk.{Staged, DeskState, spare}
use Rattle.cfdp_entity.specs.Roomy.{Roomy}
use Rattle.cfdp_entity.specs.Seen.{seen}
use Rattle.cfdp_entity.specs.Table.{Entry, TableState, has_due, most_records}

abbrev pub entry_seen : Staged → TransactionId × Record → Entry
entry_seen staged e = (e.0, seen (staged e.0) e.1)

unfoldable pub entries_seen : Staged → List (TransactionId × Record) → List Entry
entries_seen staged es = map (entry_seen staged) es

-- the table of these records, over a desk; these indications were discarded
abbrev pub state_of : List Indication → DeskState → List (TransactionId × Record) → TableState
state_of gone desk es = record {
  records = entries_seen desk.staged es;
  now = desk.effects.timers.time;
  armed = desk.effects.timers.armed;
  told = gone ++ desk.effects.told.items;
  gone = length gone;
  files = desk.files;
  sources = desk.sources;
  stands = desk.stands;
  policy = desk.policy;
}

abbrev pub roomy_of : List Indication → DeskState → List (TransactionId × Record) → Roomy
roomy_of gone desk es = record {
  state = state_of gone desk es;
  spare = spare desk;
  inbox_failures = desk.inbox_failures;
  outbox_failures = desk.outbox_failures;
}

-- ---- a record that is ready
abbrev pub id_of : Record → TransactionId
id_of (held.Sends x) = x.addressing.id
id_of (held.Receives r) = r.addressing.id

-- A record is kept under its transaction. What a sender sends must be in the outbox, and if a
-- receiver receives, its transaction must be begun, and what is held must be staged.
unfoldable pub IsReadyRecord : Staged → FileMap → TransactionId → Record → Type 0
IsReadyRecord staged sources id (held.Sends x) =
    (x.addressing.id ≡ id) × HasOwnFile sources x
IsReadyRecord staged sources id (held.Receives r) = (r.addressing.id ≡ id) × IsReady staged r

-- A record can make a step: it must be ready, with room for what the step says and arms.
pub record MayStep (r : Record) (desk : DeskState) : Type 0 where
  pub ready : IsReadyRecord desk.staged desk.sources (id_of r) r
  pub room : HasRoom (id_of r) desk.effects

-- ---- a table that is whole
-- each record must be ready, and its timers must have room
unfoldable pub AllReady : Staged → FileMap → set.FinSet id_cmp → List (TransactionId × Record) →
    Type 0
AllReady staged sources roomy [] = Unit {0}
AllReady staged sources roomy (e ∷ es) =
    IsReadyRecord staged sources e.0 e.1 × (set.contains roomy e.0 ≡ true)
    × AllReady staged sources roomy es

pub record IsWhole (desk : DeskState) (es : List (TransactionId × Record)) (flags : List Bool)
    : Type 0 where
  pub distinct : IsDistinct same_id (keys_of es)
  pub ready : AllReady desk.staged desk.sources desk.effects.timers.roomy es
  pub flagged : flags ≡ map has_due (entries_seen desk.staged es)
  pub few : length es ≤ most_records
