-- The state of an entity, and how it is kept.
use Rattle.std.specs.Prelude.{◌≡◌, ◌≤◌, ℕ, ◌^◌, Bool, false, List, [], replicate, get_or, slice_get, slice_set, Option, Some, None}
use Rattle.std.specs.FinSet as set
use Rattle.cfd_bits.specs.Counting.{raised}
use Rattle.cfdp_header.specs.Files.{FileMap}
use Rattle.cfdp_header.specs.declared.value.TransactionId.{TransactionId}
use Rattle.cfdp_directives.specs.declared.user.phase.Phase.{Phase}
use Rattle.cfdp_extents.specs.Forgotten.{IdSet}
use Rattle.cfdp_entity.specs.declared.config.EntityConfig.{EntityConfig}
use Rattle.cfdp_entity.specs.declared.error.EntityDrop.{EntityDrop}
use Rattle.cfdp_entity.specs.declared.sent.SentPdus.{SentPdus}
use Rattle.cfdp_entity.specs.Errors.{drop_number}
use Rattle.cfdp_entity.specs.Sent.{none_sent}
use Rattle.cfdp_entity.specs.Strays.{StrayAck}
use Rattle.cfdp_entity.specs.Table.{Entry, TableState, place_of, first_table, phase_in, progress_in, standing, table_lent}

-- The table, the stray acknowledgements in their order, the index after the record served last,
-- the number of the next put, the counts of drops by their number and of what was sent, how it is
-- set up, and the transactions that were discarded.
pub record EntityState : Type 0 where
  pub table : TableState
  pub strays : List StrayAck
  pub cursor : ℕ
  pub next : ℕ
  pub drops : List ℕ
  pub sent : SentPdus
  pub config : EntityConfig
  pub forgotten : IdSet

-- `true` if a transaction was discarded
abbrev pub is_forgotten : EntityState → TransactionId → Bool
is_forgotten e id = set.contains e.forgotten id

-- an entity, and how many calls of each store failed
pub record Counted : Type 0 where
  pub state : EntityState
  pub inbox_failures : ℕ
  pub outbox_failures : ℕ

abbrev pub first_entity : FileMap → FileMap → EntityConfig → EntityState
first_entity sources files config = record {
  table = first_table sources files config.policy;
  strays = [];
  cursor = 0;
  next = config.first_number;
  drops = replicate 18 0;
  sent = none_sent;
  config = config;
  forgotten = set.empty;
}

-- an entity and these counts, if the files of its outbox stand, or if they don't
abbrev pub entity_standing : Bool → EntityState → EntityState
entity_standing stands e = record e { table = standing stands e.table }

-- an entity before a step that may read a file, except that its outbox has what it has afterwards
abbrev pub entity_lent : (now old : EntityState) → EntityState
entity_lent now old = record old { table = table_lent now.table old.table }

abbrev pub counted_lent : (now old : Counted) → Counted
counted_lent now old = record old { state = entity_lent now.state old.state }

abbrev pub with_table : EntityState → TableState → EntityState
with_table e t = record e { table = t }

-- ---- numbers
-- the transaction of this number, if the entity sends its file
abbrev pub own_id : ℕ → ℕ → TransactionId
own_id entity number = record { source = entity; number = number }

-- No record may have the number of the next put, or one after it: so no number comes twice.
unfoldable pub AreFree : ℕ → ℕ → List Entry → Type 0
AreFree entity next records = (n : ℕ) → next ≤ n → place_of (own_id entity n) records ≡ None

-- None of these was discarded.
unfoldable pub AreUnforgotten : ℕ → ℕ → IdSet → Type 0
AreUnforgotten entity next forgotten =
    (n : ℕ) → next ≤ n → set.contains forgotten (own_id entity n) ≡ false

-- the number of the next put; if all are used it is one after the last of eight octets
abbrev pub next_of : Option ℕ → ℕ
next_of (Some n) = n
next_of None = 2 ^ 64

-- ---- counts of drops
abbrev pub counted : EntityDrop → List ℕ → List ℕ
counted d drops = slice_set drops (drop_number d) (raised (get_or drops (drop_number d) 0))

abbrev pub dropped : EntityDrop → EntityState → EntityState
dropped d e = record e { drops = counted d e.drops }

-- ---- how far a transaction has come
abbrev pub phase_by : Option ℕ → TableState → Option Phase
phase_by (Some place) t = phase_in (slice_get t.records place)
phase_by None t = None

abbrev pub phase_told : TransactionId → TableState → Option Phase
phase_told id t = phase_by (place_of id t.records) t

abbrev pub progress_by : Option ℕ → TableState → Option ℕ
progress_by (Some place) t = progress_in (slice_get t.records place)
progress_by None t = None

abbrev pub progress_told : TransactionId → TableState → Option ℕ
progress_told id t = progress_by (place_of id t.records) t
