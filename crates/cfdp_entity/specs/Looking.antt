-- A file that the outbox looks for while an entity is at work.
use Rattle.std.specs.Prelude.{◌≡◌, ◌⊎◌, ℕ, Bool, true, false, List, slice_get, Option, Some, None}
use Rattle.cfdp_store.specs.Rereading.{LooksFor}
use Rattle.cfdp_entity.specs.Entity.{EntityState, with_table}
use Rattle.cfdp_entity.specs.Seen.{sends_file}
use Rattle.cfdp_entity.specs.Table.{Entry, TableState, table_lent}

-- `true` if the record at an index is sending the file of this name
abbrev pub sends_in : List ℕ → Option Entry → Bool
sends_in name None = false
sends_in name (Some e) = sends_file name e.1

abbrev pub sends_at : List ℕ → ℕ → TableState → Bool
sends_at name place st = sends_in name (slice_get st.records place)

-- A record is sending it.
abbrev pub IsSent : List ℕ → TableState → Type 0
IsSent name st = (place : ℕ) × (sends_at name place st ≡ true)

-- None is.
abbrev pub IsUnsent : List ℕ → TableState → Type 0
IsUnsent name st = (place : ℕ) → sends_at name place st ≡ false

-- The outbox looked for it, and nothing else changed.
pub record LooksAnew (name : List ℕ) (old new : TableState) : Type 0 where
  pub unsent : IsUnsent name old
  pub looks : LooksFor name old.stands new.stands old.sources new.sources
  pub table : new ≡ table_lent new old

-- If no record is sending it, it is looked for; otherwise it is the one that is sent.
abbrev pub Looks : List ℕ → (old new : TableState) → Type 0
Looks name old new = (IsSent name old × (new ≡ old)) ⊎ LooksAnew name old new

-- An entity looked for it so.
pub record LooksUp (name : List ℕ) (old new : EntityState) : Type 0 where
  pub looks : Looks name old.table new.table
  pub entity : new ≡ with_table old new.table
