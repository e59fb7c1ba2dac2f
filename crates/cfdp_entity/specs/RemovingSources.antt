-- A file that is removed from an outbox in memory while an entity is at work.
use Rattle.std.specs.Prelude.{◌≡◌, ℕ, List, Option, Some, None, IsSome}
use Rattle.std.specs.FinMap as map
use Rattle.cfdp_entity.specs.declared.error.RemoveError.{RemoveError}
use Rattle.cfdp_entity.specs.declared.error.RemoveError.TheVariants.{NoSuchFile, InUse}
use Rattle.cfdp_entity.specs.Entity.{EntityState, with_table}
use Rattle.cfdp_entity.specs.Looking.{IsSent, IsUnsent}
use Rattle.cfdp_entity.specs.Table.{TableState}

-- the table with one file to send less
abbrev pub without_source : (name : List ℕ) → TableState → TableState
without_source name st = record st { sources = map.remove st.sources name }

-- The outbox had a file of this name, no record was sending it, and it was removed. Nothing else
-- changed.
pub record RemovesSource (name : List ℕ) (old new : TableState) : Type 0 where
  pub there : IsSome (map.get old.sources name)
  pub unsent : IsUnsent name old
  pub removed : new ≡ without_source name old

-- The same of an entity.
pub record RemovesItsSource (name : List ℕ) (old new : EntityState) : Type 0 where
  pub there : IsSome (map.get old.table.sources name)
  pub unsent : IsUnsent name old.table
  pub removed : new ≡ with_table old (without_source name old.table)

-- A file is not removed for this cause, by the file that has its name: there is none, or a record
-- is sending it.
abbrev pub RefusesSource : Option (List ℕ) → (name : List ℕ) → TableState → RemoveError → Type 0
RefusesSource None name st by = by ≡ NoSuchFile
RefusesSource (Some file) name st by = (by ≡ InUse) × IsSent name st

-- The same by the files of the outbox.
abbrev pub RefusesToRemove : (name : List ℕ) → TableState → RemoveError → Type 0
RefusesToRemove name st by = RefusesSource (map.get st.sources name) name st by
